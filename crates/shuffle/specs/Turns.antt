-- The shuffle as the code goes, word by word: where it stands between two words, and what one more word makes of it.
use Rattle.std.specs.Prelude.{◌≡◌, List, ℕ, zero, suc, ◌+◌, ◌*◌, ◌%◌, ◌^◌, ◌<◌, ◌≤◌, length, get_or}
use Rattle.word.specs.Word.{word_list, le4s}
use Rattle.shuffle.specs.declared.Turn.{Turn}
use Rattle.shuffle.specs.Shuffle.{key_word, used, swap, down}

-- the longest list that is drawn: its words are so few that the counter of 32 bits never wraps (Always.antt, counter-fits)
abbrev pub MOST : ℕ
MOST = 2 ^ 26

-- the bytes s are n numbers, those of p
pub record Kept (n : ℕ) (p s : List ℕ) : Type 0 where
  pub long : length p ≡ n
  pub small : (k : ℕ) → k < n → get_or p k 0 < 2 ^ 32
  pub bytes : s ≡ le4s n p

-- what is left to do at index t, where as many as `left` words may still be passed over, from word c on
unfoldable pub rest : (ℕ → ℕ) → ℕ → ℕ → ℕ → List ℕ → List ℕ
rest w zero left c p = p
rest w (suc t) left c p =
    let u = used w (suc (suc t)) left c in
    down w t (suc u) (swap (suc t) (w u % suc (suc t)) p)

-- a word is one of the 65 of its index
abbrev pub size : Turn → ℕ
size s = s.t * 65 + s.left

-- after a word
pub record Less (s r : Turn) : Type 0 where
  pub index : r.t ≤ s.t
  pub may : r.left ≤ 64
  pub less : size r < size s

-- after e words, or when the last index is passed
pub record LessBy (e : ℕ) (s r : Turn) : Type 0 where
  pub index : r.t ≤ s.t
  pub may : r.left ≤ 64
  pub less : 0 < r.t → size r + e ≤ size s

-- the words c to c + e − 1 of the stream w lead from s and the bytes x to r and the bytes y: what is then left to do is what was
pub record Went (w : ℕ → ℕ) (e c n : ℕ) (s r : Turn) (p y : List ℕ) : Type 0 where
  pub list : List ℕ
  pub kept : Kept n list y
  pub same : rest w s.t s.left c p ≡ rest w r.t r.left (c + e) list

abbrev pub Goes : (ℕ → ℕ) → ℕ → ℕ → Turn → Turn → List ℕ → List ℕ → Type 0
Goes w e c s r x y = (n : ℕ) (p : List ℕ) → Kept n p x → Went w e c n s r p y

-- the first q words of a block are taken, or as many as it took to pass the last index
pub record Taken (x words : List ℕ) (s : Turn) (y : List ℕ) (r : Turn) (q : ℕ) : Type 0 where
  pub most : q ≤ 16
  pub size : length y ≡ length x
  pub less : LessBy q s r
  pub goes : (w : ℕ → ℕ) (c : ℕ) → ((k : ℕ) → k < 16 → w (c + k) ≡ get_or words k 0) → Goes w q c s r x y

-- k blocks of the key stream are taken, the first of them with the counter `from`
pub record Blocks (key : List ℕ) (from : ℕ) (x : List ℕ) (s : Turn) (y : List ℕ) (r : Turn) (k : ℕ) : Type 0 where
  pub size : length y ≡ length x
  pub less : LessBy (k * 16) s r
  pub goes : (j : List ℕ) → key ≡ word_list 8 j → Goes (key_word j) (k * 16) (from * 16) s r x y
