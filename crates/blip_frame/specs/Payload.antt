-- The payload of a message: a varint length, the property block of that length, and the body.
use Rattle.std.specs.Prelude.{◌≡◌, ◌≢◌, ℕ, ◌+◌, ◌%◌, Bool, true, false, List, [], ◌∷◌, ◌++◌, length, take, drop, All, Result, Ok, Err, nat_lt, ◌==◌, if◌then◌else◌}
use Rattle.std.specs.List.{flat_map, list_all}
use Rattle.std.specs.Str.{is_utf8}
use Rattle.blip_frame.specs.declared.payload.PayloadFault.{PayloadFault}
use Rattle.blip_frame.specs.declared.payload.PayloadFault.TheVariants as faults
use Rattle.blip_frame.specs.declared.varint.VarintFault.{VarintFault}
use Rattle.blip_frame.specs.declared.varint.VarintFault.TheVariants as varint_faults
use Rattle.blip_frame.specs.Varint.{IsRead, number_at, varint}
use Rattle.blip_frame.specs.Props.{Pair, keys_of, stands_twice, AreUtf8}

-- a text and the NUL that closes it
abbrev pub closed : List ℕ → List ℕ
closed text = text ++ 0 ∷ []

abbrev pub closed_pair : Pair → List ℕ
closed_pair p = closed p.0 ++ closed p.1

-- the texts of keys and values in turn
abbrev pub block_of : List Pair → List ℕ
block_of props = flat_map closed_pair props

-- texts that a NUL may close have none of their own
abbrev pub HasNoNul : Pair → Type 0
HasNoNul p = All (λ b. b ≢ 0) p.0 × All (λ b. b ≢ 0) p.1

-- what a block can have: texts of UTF-8 with no NUL, and no key twice
pub record AreProps (props : List Pair) : Type 0 where
  pub closable : All HasNoNul props
  pub texts : All AreUtf8 props
  pub once : stands_twice (keys_of props) ≡ false

-- the bytes are these properties and this body
pub record IsPayload (bytes : List ℕ) (props : List Pair) (body : List ℕ) : Type 0 where
  pub size : List ℕ
  pub size_read : IsRead size (length (block_of props))
  pub props_fit : AreProps props
  pub spelled : bytes ≡ size ++ (block_of props ++ body)

-- ---- reading, with the first fault

infixl 10 ◌>>=◌
abbrev pub ◌>>=◌ : {A B : Type 0} → Result A PayloadFault → (A → Result B PayloadFault) → Result B PayloadFault
(Ok x) >>= f = f x
(Err e) >>= f = Err e

-- a fault in the length, as a fault of the payload
abbrev pub payload_fault_of : VarintFault → PayloadFault
payload_fault_of varint_faults.Short = faults.Short
payload_fault_of varint_faults.BadVarint = faults.BadVarint

abbrev pub payload_header : Result (ℕ × List ℕ) VarintFault → Result (ℕ × List ℕ) PayloadFault
payload_header (Ok x) = Ok x
payload_header (Err fault) = Err (payload_fault_of fault)

-- whether a block ends in a NUL, as one with no bytes need not
abbrev pub is_closed : List ℕ → Bool
is_closed [] = true
is_closed (b ∷ []) = b == 0
is_closed (b ∷ c ∷ bs) = is_closed (c ∷ bs)

-- a byte before the first text
abbrev pub begun : ℕ → List (List ℕ) → List (List ℕ)
begun b [] = []
begun b (text ∷ texts) = (b ∷ text) ∷ texts

-- the texts that a block closes
abbrev pub closed_texts : List ℕ → List (List ℕ)
closed_texts [] = []
closed_texts (b ∷ bs) = if b == 0 then [] ∷ closed_texts bs else begun b (closed_texts bs)

-- keys and values in turn
abbrev pub paired : List (List ℕ) → List Pair
paired [] = []
paired (key ∷ []) = []
paired (key ∷ value ∷ texts) = (key, value) ∷ paired texts

abbrev pub once_at : List Pair → Result (List Pair) PayloadFault
once_at props = if stands_twice (keys_of props) then Err faults.Twice else Ok props

abbrev pub texts_at : List (List ℕ) → Result (List Pair) PayloadFault
texts_at texts = if list_all is_utf8 texts then once_at (paired texts) else Err faults.NotText

-- the properties of a block, or the first fault
unfoldable pub block_at : List ℕ → Result (List Pair) PayloadFault
block_at block =
    if is_closed block
    then (if length (closed_texts block) % 2 == 0 then texts_at (closed_texts block) else Err faults.Odd)
    else Err faults.NotClosed

-- the properties and the body, or the first fault
unfoldable pub payload_at : List ℕ → Result (List Pair × List ℕ) PayloadFault
payload_at bytes = do
  size ← payload_header (number_at bytes)
  props ← (if nat_lt (length size.1) size.0 then Err faults.Short else block_at (take size.0 size.1))
  Ok (props, drop size.0 size.1)

-- ---- the parts of reading and writing

-- how many bytes stand before the first NUL
abbrev pub text_len : List ℕ → ℕ
text_len [] = 0
text_len (b ∷ bs) = if b == 0 then 0 else text_len bs + 1

-- what stands before the body
abbrev pub front_text : List Pair → List ℕ
front_text props = varint (length (block_of props)) ++ block_of props

-- the bytes of a payload
abbrev pub payload_text : List Pair → List ℕ → List ℕ
payload_text props body = varint (length (block_of props)) ++ (block_of props ++ body)
