-- A list that has f k at each place k is f's table.
use Rattle.std.specs.Prelude.{◌≡◌, ◌<◌}
use Rattle.lists.specs.Kit.{List, ℕ, sym, ap, ◌∙◌, length, get_or}
use Rattle.lists.specs.Over.{tab}
use Rattle.lists.specs.Tab.{tab-get_or}
use Rattle.lists.specs.Rows.{tab-ext}

pub made : {A : Type 0} (n : ℕ) (f : ℕ → A) (s : List A) (d : A) → length s ≡ n → ((k : ℕ) → k < n → get_or s k d ≡ f k) → s ≡ tab n f
made n f s d h e =
    sym (tab-get_or s d) ∙ ap (λ (m : ℕ). tab m (λ i. get_or s i d)) h ∙ tab-ext n (λ i. get_or s i d) f e
