-- what is kept of marks says where the last one is
use Rattle.std.proofs.Common.{◌≡◌, ◌<◌, ◌≤◌, ◌+◌, ℕ, suc, refl, sym, ◌∙◌, ap, arith, inl, inr, Bool, true, false, true≢false, ◌&&◌, if◌then◌else◌, List, [], ◌∷◌, length, Option, Some, None, nat_eq, unwrap_or}
use Rattle.std.specs.Prelude.{nat_le, option_map}
use Rattle.std.specs.Str.{bytes_eq}
use Rattle.std.specs.Cmp.Lexicographic.{bytes_decides}
use Rattle.std.proofs.lemmas.Bool.{eq-eqb, eqb-true, ne_eqb, le-leb, lt-leb, leb-true, leb-false, cases_lt, cases_order}
use Rattle.std.proofs.lemmas.Option.{none-some, same_Some}
use Rattle.sg_names.specs.declared.rev_id.RevId.{RevId}
use Rattle.sg_names.specs.RevId.{same_rev}
use Rattle.sg_history.specs.declared.entries.Entry.{Entry}
use Rattle.sg_history.specs.declared.entries.Mark.{Mark}
use Rattle.sg_history.specs.declared.entries.Write.{Write}
use Rattle.sg_history.specs.History.{SyncEntry, as_sync}
use Rattle.sg_history.specs.Current.{Sequenced, marks_rev}
use Rattle.log_index.specs.declared.marks.Marked.{Marked}
use Rattle.log_index.specs.declared.tables.Tables.{Tables}
use Rattle.log_index.specs.Marks.{mark_place, place_in, place_by, marked_or, marked_after, entries_up_to, write_of, mark_of_write, marked_up_to}
use Rattle.log_index.specs.Representation.{HasPlaces, IsLast, first_in, first_rev, firsts_of, is_seq, kept_place, marks_in, place_at, seq_place}
use Rattle.log_index.proofs.FirstRevisions.{Writes, first_writes, first_stays, has_first, is_same, same_is, not_there, at_older, one_revision}

-- what is kept of entries
pub kept_older : (e : Entry) (older : List Entry) (f s : ℕ) → s ≤ length older → kept_place (e ∷ older) f s ≡ kept_place older f s
kept_older e older f s low =
    ap (λ (b : Bool). if b then seq_place 0 (firsts_of older (marks_in (as_sync e))) f else kept_place older f s) (ne_eqb s (length older + 1) (λ same. omega (arith, low, same)))

pub kept_newest : (e : Entry) (older : List Entry) (f s : ℕ) → s ≡ length older + 1 → kept_place (e ∷ older) f s ≡ seq_place 0 (firsts_of older (marks_in (as_sync e))) f
kept_newest e older f s at =
    ap (λ (b : Bool). if b then seq_place 0 (firsts_of older (marks_in (as_sync e))) f else kept_place older f s) (eq-eqb s (length older + 1) at)

pub kept_beyond : (es : List Entry) (f s : ℕ) → length es < s → kept_place es f s ≡ None
kept_beyond [] f s above = refl
kept_beyond (e ∷ older) f s above =
    ap (λ (b : Bool). if b then seq_place 0 (firsts_of older (marks_in (as_sync e))) f else kept_place older f s) (ne_eqb s (length older + 1) (λ same. omega (arith, above, same)))
    ∙ kept_beyond older f s (omega (arith, above))

-- nothing is kept where no write is
no_seq : (older : List Entry) (o : Option ℕ) (doc : List ℕ) (rev : RevId) (f : ℕ) → write_of older f ≡ None → first_rev older doc rev ≡ o → is_seq o f ≡ false
no_seq older None doc rev f none at = refl
no_seq older (Some n) doc rev f none at = by (nat_eq n f) refl
  where
    by : (b : Bool) → nat_eq n f ≡ b → b ≡ false
    by true same =
        let w : Writes older doc rev f = first_writes older doc rev f (at ∙ ap (λ (k : ℕ). Some k) (eqb-true n f same)) in
        absurd (none-some w.write (sym none ∙ w.at))
    by false same = refl

no_place : (older : List Entry) (marks : List Mark) (i f : ℕ) → write_of older f ≡ None → seq_place i (firsts_of older marks) f ≡ None
no_place older [] i f none = refl
no_place older (m ∷ marks) i f none =
    ap (λ (b : Bool). if b then Some i else seq_place (suc i) (firsts_of older marks) f) (no_seq older (first_rev older m.doc m.rev) m.doc m.rev f none refl)
    ∙ no_place older marks (suc i) f none

pub none_older : (e : Entry) (older : List Entry) (seq : ℕ) → write_of (e ∷ older) seq ≡ None → write_of older seq ≡ None
none_older e older seq none = elim (cases_lt (length older) seq) [
  | inl above ↦ not_there older seq above
  | inr low ↦ sym (at_older e older seq low) ∙ none
]

kept_unwritten : (es : List Entry) (f s : ℕ) → write_of es f ≡ None → kept_place es f s ≡ None
kept_unwritten [] f s none = refl
kept_unwritten (e ∷ older) f s none =
    by (nat_eq s (length older + 1)) (no_place older (marks_in (as_sync e)) 0 f (none_older e older f none)) (kept_unwritten older f s (none_older e older f none))
  where
    by : (b : Bool) → seq_place 0 (firsts_of older (marks_in (as_sync e))) f ≡ None → kept_place older f s ≡ None
        → (if b then seq_place 0 (firsts_of older (marks_in (as_sync e))) f else kept_place older f s) ≡ None
    by true one others = one
    by false one others = others

-- a mark's first write is that of a revision where it is a mark of that
first_of_mark : (older : List Entry) (m : Mark) (doc : List ℕ) (rev : RevId) (f : ℕ) → first_rev older doc rev ≡ Some f
    → (b : Bool) → marks_rev m doc rev ≡ b → is_seq (first_rev older m.doc m.rev) f ≡ b
first_of_mark older m doc rev f first true h =
    let docs : m.doc ≡ doc = (bytes_decides m.doc doc).0 (one (bytes_eq m.doc doc) (same_rev m.rev rev) h) in
    let revs : m.rev ≡ rev = same_is m.rev rev (other (bytes_eq m.doc doc) (same_rev m.rev rev) h) in
    ap (λ (d : List ℕ). is_seq (first_rev older d m.rev) f) docs
    ∙ ap (λ (r : RevId). is_seq (first_rev older doc r) f) revs
    ∙ ap (λ (o : Option ℕ). is_seq o f) first
    ∙ eq-eqb f f refl
  where
    one : (x y : Bool) → (x && y) ≡ true → x ≡ true
    one true y h = refl
    one false y h = h

    other : (x y : Bool) → (x && y) ≡ true → y ≡ true
    other true y h = h
    other false y h = absurd (true≢false (sym h))
first_of_mark older m doc rev f first false h = by (first_rev older m.doc m.rev) refl
  where
    marks_it : first_rev older m.doc m.rev ≡ Some f → ⊥
    marks_it at =
        let same = one_revision older m.doc doc m.rev rev f at first in
        true≢false (
        sym (ap (λ (x : Bool). x && same_rev m.rev rev) ((bytes_decides m.doc doc).1 same.0)
        ∙ ap (λ (r : RevId). same_rev m.rev r) (sym same.1)
        ∙ is_same m.rev)
        ∙ h)

    own : (n : ℕ) → first_rev older m.doc m.rev ≡ Some n → (b : Bool) → nat_eq n f ≡ b → b ≡ false
    own n at true same = absurd (marks_it (at ∙ ap (λ (k : ℕ). Some k) (eqb-true n f same)))
    own n at false same = refl

    by : (o : Option ℕ) → first_rev older m.doc m.rev ≡ o → is_seq o f ≡ false
    by None at = refl
    by (Some n) at = own n at (nat_eq n f) refl

counted : (i : ℕ) (o : Option ℕ) → option_map (λ k. suc i + k) o ≡ option_map (λ k. i + k) (option_map suc o)
counted i None = refl
counted i (Some k) = ap (λ (n : ℕ). Some n) (omega arith)

from_none : (o : Option ℕ) → option_map (λ k. 0 + k) o ≡ o
from_none None = refl
from_none (Some k) = ap (λ (n : ℕ). Some n) (omega arith)

same_place : (older : List Entry) (marks : List Mark) (i : ℕ) (doc : List ℕ) (rev : RevId) (f : ℕ) → first_rev older doc rev ≡ Some f
    → seq_place i (firsts_of older marks) f ≡ option_map (λ k. i + k) (mark_place marks doc rev)
same_place older [] i doc rev f first = refl
same_place older (m ∷ marks) i doc rev f first =
    ap (λ (b : Bool). if b then Some i else seq_place (suc i) (firsts_of older marks) f) (first_of_mark older m doc rev f first (marks_rev m doc rev) refl)
    ∙ by (marks_rev m doc rev) (same_place older marks (suc i) doc rev f first)
  where
    by : (b : Bool) → seq_place (suc i) (firsts_of older marks) f ≡ option_map (λ k. suc i + k) (mark_place marks doc rev)
        → (if b then Some i else seq_place (suc i) (firsts_of older marks) f) ≡ option_map (λ k. i + k) (if b then Some 0 else option_map suc (mark_place marks doc rev))
    by true rest = ap (λ (n : ℕ). Some n) (omega arith)
    by false rest = rest ∙ counted i (mark_place marks doc rev)

-- what is kept of an entry is the place of its mark
place_kept : (older : List Entry) (o : Option SyncEntry) (doc : List ℕ) (rev : RevId) (f : ℕ) → first_rev older doc rev ≡ Some f
    → seq_place 0 (firsts_of older (marks_in o)) f ≡ place_in o doc rev
place_kept older None doc rev f first = refl
place_kept older (Some sync) doc rev f first = same_place older sync.marks 0 doc rev f first ∙ from_none (mark_place sync.marks doc rev)

-- entries up to a place
pub all_up_to : (es : List Entry) (place : ℕ) → length es ≤ place → entries_up_to es place ≡ es
all_up_to [] place high = refl
all_up_to (e ∷ older) place high =
    ap (λ (b : Bool). if b then e ∷ older else entries_up_to older place) (le-leb (length older + 1) place (omega (arith, high)))

newer_out : (e : Entry) (older : List Entry) (place : ℕ) → place < length older + 1 → entries_up_to (e ∷ older) place ≡ entries_up_to older place
newer_out e older place low = ap (λ (b : Bool). if b then e ∷ older else entries_up_to older place) (lt-leb (length older + 1) place low)

few_up_to : (es : List Entry) (place : ℕ) → length (entries_up_to es place) ≤ place
few_up_to [] place = omega arith
few_up_to (e ∷ older) place = by (nat_le (length older + 1) place) refl (few_up_to older place)
  where
    by : (b : Bool) → nat_le (length older + 1) place ≡ b → length (entries_up_to older place) ≤ place → length (if b then e ∷ older else entries_up_to older place) ≤ place
    by true h rest = omega (arith, leb-true (length older + 1) place h)
    by false h rest = rest

none_after : (es : List Entry) (w : Sequenced) → length es ≤ w.seq → marked_after es w ≡ None
none_after [] w high = refl
none_after (e ∷ older) w high =
    ap (λ (b : Bool). if b then None else marked_or (place_by e w.write.doc w.write.rev) (length older + 1) (marked_after older w)) (le-leb (length older + 1) w.seq (omega (arith, high)))

marked_next : (e : Entry) (older : List Entry) (w : Sequenced) → w.seq ≤ length older
    → marked_after (e ∷ older) w ≡ marked_or (place_by e w.write.doc w.write.rev) (length older + 1) (marked_after older w)
marked_next e older w low =
    ap (λ (b : Bool). if b then None else marked_or (place_by e w.write.doc w.write.rev) (length older + 1) (marked_after older w)) (lt-leb (length older + 1) w.seq (omega (arith, low)))

-- the last place, where there are none after a sequence
none_last : (places : ℕ → Option ℕ) (after up_to : ℕ) (r : Option Marked) → ((s : ℕ) → after < s → places s ≡ None) → IsLast places after up_to r → r ≡ None
none_last places after up_to None none is = refl
none_last places after up_to (Some m) none is = absurd (none-some m.mark (sym (none m.sync is.0) ∙ is.2))

-- the last place of others that are the same up to there
moved_last : (p q : ℕ → Option ℕ) (after up_to : ℕ) (r : Option Marked) → ((s : ℕ) → s ≤ up_to → p s ≡ q s) → IsLast p after up_to r → IsLast q after up_to r
moved_last p q after up_to None same is = λ s low high. sym (same s high) ∙ is s low high
moved_last p q after up_to (Some m) same is = (
  is.0,
  is.1,
  sym (same m.sync is.1) ∙ is.2,
  λ s above high. sym (same s high) ∙ is.3 s above high,
)

-- the last place, where it is the newest one
newest_last : (places : ℕ → Option ℕ) (after up_to n i : ℕ) (r : Option Marked) → after < n → n ≤ up_to → places n ≡ Some i → ((s : ℕ) → n < s → places s ≡ None)
    → IsLast places after up_to r → r ≡ Some (record { sync = n; mark = i })
newest_last places after up_to n i None low high at none is = absurd (none-some i (sym (is n low high) ∙ at))
newest_last places after up_to n i (Some m) low high at none is = elim (cases_order m.sync n) [
  | inl same ↦ one same
  | inr (inl below) ↦ absurd (none-some i (sym (is.3 n below high) ∙ at))
  | inr (inr above) ↦ absurd (none-some m.mark (sym (none m.sync above) ∙ is.2))
]
  where
    one : m.sync ≡ n → Some m ≡ Some (record { sync = n; mark = i })
    one same =
        let marks : m.mark ≡ i = same_Some m.mark i (sym is.2 ∙ ap places same ∙ at) in
        λ k. Some (record { sync = same k; mark = marks k })

-- a write that the newest entry is, or that comes later, has no mark
first_none : (e : Entry) (older : List Entry) (w : Sequenced) (f up_to : ℕ) (r : Option Marked) → length older < w.seq
    → IsLast (kept_place (e ∷ older) f) w.seq up_to r → r ≡ marked_after (entries_up_to (e ∷ older) up_to) w
first_none e older w f up_to r above is =
    none_last (kept_place (e ∷ older) f) w.seq up_to r (λ s after. kept_beyond (e ∷ older) f s (omega (arith, above, after))) is
    ∙ sym (short (nat_le (length older + 1) up_to) refl)
  where
    short : (b : Bool) → nat_le (length older + 1) up_to ≡ b → marked_after (if b then e ∷ older else entries_up_to older up_to) w ≡ None
    short true h = none_after (e ∷ older) w (omega (arith, above))
    short false h = none_after (entries_up_to older up_to) w (omega (arith, above, leb-false (length older + 1) up_to h, few_up_to older up_to))

-- one entry more than is asked for
entry_out : (e : Entry) (older : List Entry) (w : Sequenced) (f up_to : ℕ) (r : Option Marked) → up_to < length older + 1
    → (IsLast (kept_place older f) w.seq up_to r → r ≡ marked_after (entries_up_to older up_to) w)
    → IsLast (kept_place (e ∷ older) f) w.seq up_to r → r ≡ marked_after (entries_up_to (e ∷ older) up_to) w
entry_out e older w f up_to r low rest is =
    rest (moved_last (kept_place (e ∷ older) f) (kept_place older f) w.seq up_to r (λ s high. kept_older e older f s (omega (arith, low, high))) is)
    ∙ ap (λ (es : List Entry). marked_after es w) (sym (newer_out e older up_to low))

-- one entry more, by its mark of the revision
entry_in : (e : Entry) (older : List Entry) (w : Sequenced) (f up_to : ℕ) (r : Option Marked) → w.seq ≤ length older → length older + 1 ≤ up_to
    → first_rev older w.write.doc w.write.rev ≡ Some f
    → (IsLast (kept_place older f) w.seq up_to r → r ≡ marked_after (entries_up_to older up_to) w)
    → IsLast (kept_place (e ∷ older) f) w.seq up_to r → r ≡ marked_after (entries_up_to (e ∷ older) up_to) w
entry_in e older w f up_to r low high first rest is =
    by (place_by e w.write.doc w.write.rev) refl
    ∙ sym (marked_next e older w low)
    ∙ ap (λ (es : List Entry). marked_after es w) (sym (all_up_to (e ∷ older) up_to (omega (arith, high))))
  where
    here : kept_place (e ∷ older) f (length older + 1) ≡ place_by e w.write.doc w.write.rev
    here = kept_newest e older f (length older + 1) refl ∙ place_kept older (as_sync e) w.write.doc w.write.rev f first

    same : place_by e w.write.doc w.write.rev ≡ None → (s : ℕ) → s ≤ up_to → kept_place (e ∷ older) f s ≡ kept_place older f s
    same none s within = elim (cases_order s (length older + 1)) [
      | inl at ↦ ap (kept_place (e ∷ older) f) at ∙ here ∙ none ∙ sym (kept_beyond older f s (omega (arith, at)))
      | inr (inl below) ↦ kept_older e older f s (omega (arith, below))
      | inr (inr above) ↦ kept_beyond (e ∷ older) f s (omega (arith, above)) ∙ sym (kept_beyond older f s (omega (arith, above)))
    ]

    by : (o : Option ℕ) → place_by e w.write.doc w.write.rev ≡ o → r ≡ marked_or o (length older + 1) (marked_after older w)
    by None at =
        rest (moved_last (kept_place (e ∷ older) f) (kept_place older f) w.seq up_to r (same at) is)
        ∙ ap (λ (es : List Entry). marked_after es w) (all_up_to older up_to (omega (arith, high)))
    by (Some i) at =
        newest_last (kept_place (e ∷ older) f) w.seq up_to (length older + 1) i r (omega (arith, low)) high (here ∙ at)
        (λ s above. kept_beyond (e ∷ older) f s (omega (arith, above))) is

-- the first write of what is written in older entries
first_before : (e : Entry) (older : List Entry) (w : Write) (seq f : ℕ) → write_of older seq ≡ Some w → first_rev (e ∷ older) w.doc w.rev ≡ Some f → first_rev older w.doc w.rev ≡ Some f
first_before e older w seq f at first =
    let before = has_first older seq w at in
    before.1 ∙ sym (first_stays e older w.doc w.rev before.0 before.1) ∙ first

last_marked : (es : List Entry) (w : Sequenced) (f up_to : ℕ) (r : Option Marked) → write_of es w.seq ≡ Some w.write → first_rev es w.write.doc w.write.rev ≡ Some f
    → IsLast (kept_place es f) w.seq up_to r → r ≡ marked_after (entries_up_to es up_to) w
last_marked [] w f up_to r at first is = absurd (none-some w.write at)
last_marked (e ∷ older) w f up_to r at first is = elim (cases_lt (length older) w.seq) [
  | inl above ↦ first_none e older w f up_to r above is
  | inr low ↦ rest low (λ h k. last_marked older w f up_to r h k)
]
  where
    rest : w.seq ≤ length older
        → (write_of older w.seq ≡ Some w.write → first_rev older w.write.doc w.write.rev ≡ Some f → IsLast (kept_place older f) w.seq up_to r → r ≡ marked_after (entries_up_to older up_to) w)
        → r ≡ marked_after (entries_up_to (e ∷ older) up_to) w
    rest low before =
        let there : write_of older w.seq ≡ Some w.write = sym (at_older e older w.seq low) ∙ at in
        let own : first_rev older w.write.doc w.write.rev ≡ Some f = first_before e older w.write w.seq f there first in
        elim (cases_lt up_to (length older + 1)) [
          | inl out ↦ entry_out e older w f up_to r out (before there own) is
          | inr high ↦ entry_in e older w f up_to r low high own (before there own) is
        ]

-- the last place that is kept is that of the last mark
pub last_kept : (tables : Tables) (es : List Entry) (seq up_to : ℕ) (r : Option Marked) → HasPlaces tables es
    → IsLast (place_at tables.marks (first_in tables.repeats seq)) seq up_to r → r ≡ marked_up_to es seq up_to
last_kept tables es seq up_to r has is = by (write_of es seq) refl
  where
    by : (o : Option Write) → write_of es seq ≡ o → r ≡ mark_of_write (entries_up_to es up_to) seq o
    by None at =
        let own : first_in tables.repeats seq ≡ seq = ap (λ (o : Option ℕ). unwrap_or o seq) (has.unwritten seq at) in
        none_last (place_at tables.marks (first_in tables.repeats seq)) seq up_to r
        (λ s after. ap (λ (f : ℕ). place_at tables.marks f s) own ∙ has.marks seq s ∙ kept_unwritten es seq s at) is
    by (Some w) at =
        last_marked es (record { seq = seq; write = w }) (first_in tables.repeats seq) up_to r at (sym (has.repeats seq w at))
        (moved_last (place_at tables.marks (first_in tables.repeats seq)) (kept_place es (first_in tables.repeats seq)) seq up_to r (λ s high. has.marks (first_in tables.repeats seq) s) is)

-- there is no mark between a write and an earlier place
pub none_up_to : (es : List Entry) (seq up_to : ℕ) → up_to < seq → None ≡ marked_up_to es seq up_to
none_up_to es seq up_to low = by (write_of es seq)
  where
    by : (o : Option Write) → None ≡ mark_of_write (entries_up_to es up_to) seq o
    by None = refl
    by (Some w) = sym (none_after (entries_up_to es up_to) (record { seq = seq; write = w }) (omega (arith, low, few_up_to es up_to)))
