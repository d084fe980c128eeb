-- the revisions that were written so far, as a reader keeps them
use Rattle.std.specs.Prelude.{◌≡◌, ◌+◌, ◌*◌, ◌%◌, ◌^◌, ℕ, Bool, true, ◌&&◌, nat_eq, List, [], ◌∷◌, reverse}
use Rattle.std.specs.Borrow.{Bor}
use Rattle.std.specs.List.{list_any}
use Rattle.std.specs.Str.{bytes_eq}
use Rattle.sg_names.specs.declared.rev_id.RevId.{RevId}
use Rattle.sg_names.specs.RevId.{same_rev}
use Rattle.sg_history.specs.declared.entries.Entry.{Entry}
use Rattle.sg_history.specs.Journal.{has_rev}

-- a document with one of its revisions
pub record DocRev : Type 0 where
  pub doc : List ℕ
  pub rev : RevId

-- whether it is this revision of this document
abbrev pub is_rev_of : DocRev → List ℕ → RevId → Bool
is_rev_of written doc rev = bytes_eq written.doc doc && same_rev written.rev rev

-- whether the revision of the document is among these
abbrev pub has : List DocRev → List ℕ → RevId → Bool
has written doc rev = list_any (λ w. is_rev_of w doc rev) written

-- a revision of a document is among those kept exactly where one of the entries is a write of the document with this revision
abbrev pub Knows : List DocRev → List Entry → Type 0
Knows written entries = (doc : List ℕ) (rev : RevId) → has written doc rev ≡ has_rev (reverse entries) doc rev

-- a number that is made of all bytes of a text
abbrev pub digest_number : ℕ → List ℕ → ℕ
digest_number number [] = number
digest_number number (byte ∷ bytes) = digest_number ((number * 31 % 2 ^ 64 + byte) % 2 ^ 64) bytes

-- the keys of a reader's set: the digest's number, document, generation and digest
abbrev pub Key : Type 0
Key = ℕ × Bor (List ℕ) × ℕ × Bor (List ℕ)

abbrev pub key_eq : Key → Key → Bool
key_eq q k = nat_eq q.0 k.0 && (bytes_eq q.1.now k.1.now && (nat_eq q.2 k.2 && bytes_eq q.3.now k.3.now))

-- the first number of each key is that of its digest
abbrev pub IsNumbered : Key → Type 0
IsNumbered k = k.0 ≡ digest_number 0 k.3.now

abbrev pub AreNumbered : List Key → Type 0
AreNumbered keys = (k : Key) → list_any (λ x. key_eq k x) keys ≡ true → IsNumbered k
