-- What Blocks are drawn with: a cipher under the seed, where there is one.
use Rattle.std.specs.Prelude.{◌≡◌, ◌≢◌, List, ℕ, Option, Some, None, length}
use Rattle.fips197.specs.Key.{key_expansion}
use Rattle.aes_key.specs.Words.{words_bytes}
use Rattle.aes_counter.specs.declared.Cipher.{Cipher}

pub record Ready (r : List ℕ) (c : Option Cipher) : Type 0 where
  pub lent : c ≡ None → length r ≢ 16
  pub seed : (k : Cipher) → c ≡ Some k → length r ≡ 16
  pub words : (k : Cipher) → c ≡ Some k → words_bytes 44 k.key.words ≡ key_expansion r
