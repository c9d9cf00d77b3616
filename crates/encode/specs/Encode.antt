-- What a message's bytes are (document 01, "Messages"): bincode legacy. A bool is one byte, a Block and a hash are bare, a tuple is its
-- fields one after another.
use Rattle.std.specs.Prelude.{ℕ, Bool, false, List, [], ◌∷◌, ◌++◌, length, get_or}
use Rattle.lists.specs.Over.{cat}
use Rattle.algebra.specs.Group.{num}
use Rattle.block.specs.declared.Block.{Block}
use Rattle.block.specs.Block.{le8, bytes_of}
use Rattle.message.specs.Format.{Item, Fields, Inner, Inners, Absent, Present}

-- a list of c items: the count as 8 bytes, low byte first, then g 0, g 1, .., g (c - 1)
unfoldable pub encode : ℕ → (ℕ → List ℕ) → List ℕ
encode c g = le8 c ++ cat c g

-- (bit, MAC) of `fabitn`; (e, u) of `flaand`
unfoldable pub bit_block : Bool → Block → List ℕ
bit_block b x = num b ∷ bytes_of x

-- (h0, h1) of `haand`
unfoldable pub two_bits : Bool → Bool → List ℕ
two_bits a b = num a ∷ num b ∷ []

-- (c0, c1, cm) of `fashare comm`
unfoldable pub three_hashes : List ℕ → List ℕ → List ℕ → List ℕ
three_hashes a b c = a ++ (b ++ c)

-- (d, e, MAC of d, MAC of e) of `faand`
unfoldable pub two_bits_two_blocks : Bool → Bool → Block → Block → List ℕ
two_bits_two_blocks d e x y = num d ∷ num e ∷ (bytes_of x ++ bytes_of y)

-- a dm of `fashare ver`: a list of bytes
unfoldable pub dm_item : List ℕ → List ℕ
dm_item x = le8 (length x) ++ x

-- a bucket of `dvalue`: the list of its c d values, and the list of their MACs
unfoldable pub dvalue_item : ℕ → (ℕ → Bool) → (ℕ → Block) → List ℕ
dvalue_item c d x = encode c (λ k. num (d k) ∷ []) ++ encode c (λ k. bytes_of (x k))

-- an entry of an echo: absent, or a hash of 16 bytes
unfoldable pub none_item : List ℕ
none_item = 0 ∷ []

unfoldable pub some_item : List ℕ → List ℕ
some_item h = 1 ∷ h

-- ---- a value that the reader gave, written again
-- an item
unfoldable pub item_bytes : Item → List ℕ
item_bytes (Fields b x) = cat (length b) (λ k. num (get_or b k false) ∷ []) ++ x
item_bytes (Inner x) = dm_item x
item_bytes (Inners d x) = encode (length d) (λ k. num (get_or d k false) ∷ []) ++ encode (length x) (λ k. get_or x k [])
item_bytes Absent = none_item
item_bytes (Present x) = some_item x

-- a list
unfoldable pub message_of : List Item → List ℕ
message_of v = encode (length v) (λ t. item_bytes (get_or v t Absent))
