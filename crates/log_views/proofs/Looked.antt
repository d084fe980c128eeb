-- what is looked for by a sequence, among entries and among the newest first
use Rattle.std.proofs.Common.{◌≡◌, ◌≢◌, inl, inr, ◌<◌, ◌≤◌, ◌+◌, ◌-◌, ℕ, zero, suc, refl, sym, ◌∙◌, ap, arith, Bool, true, false, if◌then◌else◌, List, [], ◌∷◌, ◌++◌, length, take, drop, reverse, Option, Some, None}
use Rattle.std.specs.Prelude.{nat_eq}
use Rattle.std.specs.List.{slice_get}
use Rattle.std.proofs.lemmas.Bool.{eqb-true, eqb-false, ne_eqb, le-leb, lt-leb, cases_lt}
use Rattle.std.proofs.lemmas.List.{reverse-append, length-reverse, reverse-reverse, take-append-drop, take-take, take_all, length-take, length-take-le}
use Rattle.sg_history.specs.declared.entries.Entry.{Entry}
use Rattle.sg_history.specs.declared.entries.Mark.{Mark}
use Rattle.sg_history.specs.declared.entries.Write.{Write}
use Rattle.sg_history.specs.History.{as_sync, as_write, past}
use Rattle.log_index.specs.declared.marks.Marked.{Marked}
use Rattle.log_index.specs.Marks.{entries_up_to, mark_at, mark_in_place, write_of}
use Rattle.log_views.specs.At.{written, write_at}

-- what the entry of a sequence has
abbrev look : {X : Type 0} → (Entry → Option X) → List Entry → ℕ → Option X
look f [] seq = None
look f (e ∷ older) seq = if nat_eq seq (length older + 1) then f e else look f older seq

-- what an entry has, if there is one
abbrev pub had : {X : Type 0} → (Entry → Option X) → Option Entry → Option X
had f None = None
had f (Some e) = f e

other_got : {X : Type 0} (xs : List X) (y : X) (i : ℕ) → i ≢ length xs → slice_get (xs ++ y ∷ []) i ≡ slice_get xs i
other_got [] y zero h = absurd (h refl)
other_got [] y (suc i) h = refl
other_got (x ∷ xs) y zero h = refl
other_got (x ∷ xs) y (suc i) h = other_got xs y i (λ same. h (ap (λ (n : ℕ). suc n) same))

seam_got : {X : Type 0} (xs : List X) (y : X) → slice_get (xs ++ y ∷ []) (length xs) ≡ Some y
seam_got [] y = refl
seam_got (x ∷ xs) y = seam_got xs y

looked : {X : Type 0} (f : Entry → Option X) (es : List Entry) (seq : ℕ) → 0 < seq → look f es seq ≡ had f (slice_get (reverse es) (seq - 1))
looked f [] seq low = refl
looked f (e ∷ older) seq low = by (nat_eq seq (length older + 1)) refl (looked f older seq low)
  where
    split : reverse (e ∷ older) ≡ reverse older ++ e ∷ []
    split = reverse-append (e ∷ []) older

    by : (b : Bool) → nat_eq seq (length older + 1) ≡ b → look f older seq ≡ had f (slice_get (reverse older) (seq - 1))
        → (if b then f e else look f older seq) ≡ had f (slice_get (reverse (e ∷ older)) (seq - 1))
    by true at rest =
        let place : seq - 1 ≡ length (reverse older) = omega (arith, eqb-true seq (length older + 1) at, length-reverse older) in
        sym (
        ap (λ (es : List Entry). had f (slice_get es (seq - 1))) split
        ∙ ap (λ (n : ℕ). had f (slice_get (reverse older ++ e ∷ []) n)) place
        ∙ ap (had f) (seam_got (reverse older) e))
    by false at rest =
        let apart : seq - 1 ≢ length (reverse older) = λ same. eqb-false seq (length older + 1) at (omega (arith, low, same, length-reverse older)) in
        rest
        ∙ sym (
        ap (λ (es : List Entry). had f (slice_get es (seq - 1))) split
        ∙ ap (had f) (other_got (reverse older) e (seq - 1) apart))

mark_looked : (es : List Entry) (m : Marked) → mark_at es m ≡ look (λ e. mark_in_place (as_sync e) m.mark) es m.sync
mark_looked [] m = refl
mark_looked (e ∷ older) m = ap (λ (o : Option Mark). if nat_eq m.sync (length older + 1) then mark_in_place (as_sync e) m.mark else o) (mark_looked older m)

write_looked : (es : List Entry) (seq : ℕ) → write_of es seq ≡ look as_write es seq
write_looked [] seq = refl
write_looked (e ∷ older) seq = ap (λ (o : Option Write). if nat_eq seq (length older + 1) then as_write e else o) (write_looked older seq)

-- a mark is read where it stands
pub mark_read : (entries : List Entry) (m : Marked) → 0 < m.sync → had (λ e. mark_in_place (as_sync e) m.mark) (slice_get entries (m.sync - 1)) ≡ mark_at (reverse entries) m
mark_read entries m low =
    sym (
    mark_looked (reverse entries) m
    ∙ looked (λ e. mark_in_place (as_sync e) m.mark) (reverse entries) m.sync low
    ∙ ap (λ (es : List Entry). had (λ e. mark_in_place (as_sync e) m.mark) (slice_get es (m.sync - 1))) (reverse-reverse entries))

pub no_mark : (es : List Entry) (m : Marked) → m.sync ≡ 0 → None ≡ mark_at es m
no_mark [] m none = refl
no_mark (e ∷ older) m none =
    no_mark older m none
    ∙ sym (ap (λ (b : Bool). if b then mark_in_place (as_sync e) m.mark else mark_at older m) (ne_eqb m.sync (length older + 1) (λ same. omega (arith, none, same))))

had_written : (o : Option Entry) → had as_write o ≡ written o
had_written None = refl
had_written (Some e) = refl

pub write_found : (es : List Entry) (seq : ℕ) → 0 < seq → write_of es seq ≡ write_at (reverse es) seq
write_found es seq low = write_looked es seq ∙ looked as_write es seq low ∙ had_written (slice_get (reverse es) (seq - 1))

longer : (xs ys : List Entry) → length ys ≤ length (xs ++ ys)
longer [] ys = omega arith
longer (x ∷ xs) ys = omega (arith, longer xs ys)

-- a mark among entries that others follow
pub older_mark : (more es : List Entry) (m : Marked) → m.sync ≤ length es → mark_at (more ++ es) m ≡ mark_at es m
older_mark [] es m low = refl
older_mark (e ∷ more) es m low =
    ap (λ (b : Bool). if b then mark_in_place (as_sync e) m.mark else mark_at (more ++ es) m) (ne_eqb m.sync (length (more ++ es) + 1) (λ same. omega (arith, low, same, longer more es)))
    ∙ older_mark more es m low

all_up_to : (es : List Entry) (place : ℕ) → length es ≤ place → entries_up_to es place ≡ es
all_up_to [] place high = refl
all_up_to (e ∷ older) place high =
    ap (λ (b : Bool). if b then e ∷ older else entries_up_to older place) (le-leb (length older + 1) place (omega (arith, high)))

some_up_to : (more es : List Entry) (place : ℕ) → length es ≡ place → entries_up_to (more ++ es) place ≡ es
some_up_to [] es place is = all_up_to es place (omega (arith, is))
some_up_to (e ∷ more) es place is =
    ap (λ (b : Bool). if b then e ∷ (more ++ es) else entries_up_to (more ++ es) place) (lt-leb (length (more ++ es) + 1) place (omega (arith, is, longer more es)))
    ∙ some_up_to more es place is

-- the entries of a log are those up to a place, and others
pub past_first : (entries : List Entry) (n k : ℕ) → k ≤ n → reverse (drop k (take n entries)) ++ past entries k ≡ past entries n
past_first entries n k low =
    sym (reverse-append (take k (take n entries)) (drop k (take n entries)) ∙ ap (λ (es : List Entry). reverse (drop k (take n entries)) ++ reverse es) (take-take k n entries low))
    ∙ ap reverse (take-append-drop k (take n entries))

pub past_up_to : (entries : List Entry) (n k : ℕ) → k ≤ n → entries_up_to (past entries n) k ≡ past entries k
past_up_to entries n k low = elim (cases_lt k (length entries)) [
  | inl within ↦ ap (λ (es : List Entry). entries_up_to es k) (sym (past_first entries n k low)) ∙ some_up_to (reverse (drop k (take n entries))) (past entries k) k (long within)
  | inr beyond ↦ beyond_all beyond
]
  where
    long : k < length entries → length (past entries k) ≡ k
    long within = length-reverse (take k entries) ∙ length-take-le k entries (omega (arith, within))

    beyond_all : length entries ≤ k → entries_up_to (past entries n) k ≡ past entries k
    beyond_all high =
        let whole : take n entries ≡ entries = take_all n entries (omega (arith, high, low)) in
        ap (λ (es : List Entry). entries_up_to (reverse es) k) whole
        ∙ all_up_to (reverse entries) k (omega (arith, high, length-reverse entries))
        ∙ ap reverse (sym (take_all k entries high))

taken_got : {X : Type 0} (xs : List X) (n i : ℕ) → i < n → slice_get (take n xs) i ≡ slice_get xs i
taken_got xs zero i low = absurd (omega (arith, low))
taken_got [] (suc n) i low = refl
taken_got (x ∷ xs) (suc n) zero low = refl
taken_got (x ∷ xs) (suc n) (suc i) low = taken_got xs n i (omega (arith, low))

-- a write of the entries up to a place
pub past_write : (entries : List Entry) (n seq : ℕ) → 0 < seq → seq ≤ n → write_of (past entries n) seq ≡ write_at entries seq
past_write entries n seq low within =
    write_found (past entries n) seq low
    ∙ ap (λ (es : List Entry). write_at es seq) (reverse-reverse (take n entries))
    ∙ ap written (taken_got entries n (seq - 1) (omega (arith, low, within)))

pub not_there : (es : List Entry) (seq : ℕ) → length es < seq → write_of es seq ≡ None
not_there [] seq above = refl
not_there (e ∷ older) seq above =
    ap (λ (b : Bool). if b then as_write e else write_of older seq) (ne_eqb seq (length older + 1) (λ same. omega (arith, above, same)))
    ∙ not_there older seq (omega (arith, above))

pub past_long : (entries : List Entry) (n : ℕ) → length (past entries n) ≤ n
past_long entries n = omega (arith, length-reverse (take n entries), length-take n entries)

-- all entries up to the end
pub whole_up_to : (es : List Entry) → entries_up_to es (length es) ≡ es
whole_up_to es = all_up_to es (length es) (omega arith)
