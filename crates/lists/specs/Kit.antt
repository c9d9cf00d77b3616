-- What most proofs use of the kit, under one name.
pub use Rattle.std.specs.Prelude.{◌≡◌, refl, ◌≢◌, List, [], ◌∷◌, ◌++◌, Bool, true, false, not, ◌&&◌, ◌||◌, ℕ, zero, suc, ◌+◌, ◌-◌, ◌*◌, ◌<◌, ◌≤◌, length, get_or, take, drop, replicate, set}
pub use Rattle.std.proofs.Common.{sym, ap, ap₂, subst, ◌∙◌, arith, rules}
