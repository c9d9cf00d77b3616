-- The names of the rounds (document 01, "Rounds, in order").
use Rattle.std.specs.Prelude.{ℕ, List, [], ◌∷◌, ◌++◌, get_or, take, replicate, leb}
use Prim.Native.Char.{code}
use Prim.Native.String.{String, [] as []ˢ, ◌∷◌ as ◌∷ˢ◌}
use Rattle.lists.specs.Pick.{pick}

unfoldable pub ascii : String → List ℕ
ascii []ˢ = []
ascii (c ∷ˢ s) = code c ∷ ascii s

-- 16 bytes, with zeros behind the name
unfoldable pub padded : String → List ℕ
padded s = take 16 (ascii s ++ replicate 16 0)

unfoldable pub names : List (List ℕ)
names =
    padded "" ∷ padded "RNG comm" ∷ padded "echo" ∷ padded "RNG ver" ∷ padded "RNG comm" ∷ padded "RNG ver" ∷ padded "fabitn" ∷ padded "echo"
    ∷ padded "fashare comm" ∷ padded "echo" ∷ padded "fashare ver" ∷ padded "echo" ∷ padded "fashare di_bi" ∷ padded "echo" ∷ padded "haand"
    ∷ padded "flaand" ∷ padded "echo" ∷ padded "flaand comm" ∷ padded "echo" ∷ padded "flaand hash" ∷ padded "echo" ∷ padded "dvalue"
    ∷ padded "faand" ∷ []

-- the name of round k; what is no round has none
unfoldable pub round_name : ℕ → List ℕ
round_name k = pick (leb k 22) (get_or names k []) (padded "")
