-- the entries of a log up to its places, and what is read of them
use Rattle.std.proofs.Common.{◌≡◌, ◌⊎◌, inl, inr, ◌<◌, ◌≤◌, ◌+◌, ◌-◌, ℕ, zero, suc, refl, sym, ◌∙◌, ap, arith, Bool, true, false, not, if◌then◌else◌, List, [], ◌∷◌, ◌++◌, length, take, reverse, Option, Some, None, nat_eq}
use Rattle.std.specs.Prelude.{nat_le, slice_get, IsSome}
use Rattle.std.proofs.lemmas.Bool.{cases_lt, eq-eqb, false≢true, leb-false, leb-true, ne_eqb}
use Rattle.std.proofs.lemmas.List.{length-reverse, length-take-le, reverse-append}
use Rattle.std.proofs.lemmas.Option.{none-some, same_Some}
use Rattle.sg_history.specs.declared.entries.Entry.{Entry}
use Rattle.sg_history.specs.declared.entries.Mark.{Mark}
use Rattle.sg_history.specs.declared.entries.Write.{Write}
use Rattle.sg_history.specs.History.{as_sync, as_write, past}
use Rattle.sg_history.specs.Current.{Effects, Sequenced, effects_of, effects_or, recorded_effects}
use Rattle.log_index.specs.declared.marks.Marked.{Marked}
use Rattle.log_index.specs.Marks.{effects_by, entries_up_to, mark_at, mark_in_place, marked_after, mark_of_write, marked_up_to, write_of}
use Rattle.log_index.specs.Places.{after_at, next_at, next_or, written_again}
use Rattle.log_index.proofs.FirstRevisions.{at_older}
use Rattle.log_index.proofs.GoingBack.{all_up_to, up_to_older}
use Rattle.log_index.proofs.Nexts.{after_older}
use Rattle.channel_cache.specs.inner.Counting.{counts_at, is_behind}
use Rattle.channel_cache.specs.inner.Moves.{channels_at, channels_by}
use Rattle.channel_cache.specs.inner.Read.{channels_marked, channels_written, marked_channels, written_channels}
use Rattle.channel_cache.specs.Stands.{IndexesTo, is_last}

take_next : (entries : List Entry) (n : ℕ) (e : Entry) → slice_get entries n ≡ Some e → take (suc n) entries ≡ take n entries ++ e ∷ []
take_next [] n e h = absurd (none-some e h)
take_next (x ∷ xs) zero e h = ap (λ (y : Entry). y ∷ []) (same_Some x e h)
take_next (x ∷ xs) (suc n) e h = ap (λ (l : List Entry). x ∷ l) (take_next xs n e h)

pub past_next : (entries : List Entry) (n : ℕ) (e : Entry) → slice_get entries n ≡ Some e → past entries (suc n) ≡ e ∷ past entries n
past_next entries n e h = ap (λ (l : List Entry). reverse l) (take_next entries n e h) ∙ reverse-append (take n entries) (e ∷ [])

pub past_count : (entries : List Entry) (n : ℕ) → n ≤ length entries → length (past entries n) ≡ n
past_count entries n h = length-reverse (take n entries) ∙ length-take-le n entries h

-- the entry at a place within a log
pub got : (entries : List Entry) (n : ℕ) → n < length entries → (e : Entry) × (slice_get entries n ≡ Some e)
got [] n within = absurd (omega (arith, within))
got (e ∷ entries) zero within = (e, refl)
got (e ∷ entries) (suc n) within = got entries n (omega (arith, within))

pub up_to_past : (entries : List Entry) (k n : ℕ) → k ≤ n → n ≤ length entries → entries_up_to (past entries n) k ≡ past entries k
up_to_past entries k zero low high =
    let none : k ≡ 0 = omega (arith, low) in
    ap (λ (m : ℕ). past entries m) (sym none)
up_to_past entries k (suc n) low high = by (cases_lt n k) (λ le. up_to_past entries k n le (omega (arith, high)))
  where
    by : (n < k) ⊎ (k ≤ n) → (k ≤ n → entries_up_to (past entries n) k ≡ past entries k) → entries_up_to (past entries (suc n)) k ≡ past entries k
    by (inl above) rest =
        let same : suc n ≡ k = omega (arith, above, low) in
        all_up_to (past entries (suc n)) k (omega (arith, above, past_count entries (suc n) high)) ∙ ap (λ (m : ℕ). past entries m) same
    by (inr le) rest =
        let one = got entries n (omega (arith, high)) in
        ap (λ (es : List Entry). entries_up_to es k) (past_next entries n one.0 one.1)
        ∙ up_to_older one.0 (past entries n) k (omega (arith, le, past_count entries n (omega (arith, high))))
        ∙ rest le

-- what is said of the entry of a sequence is said of the entry that stands there
pub read_by : {X : Type 0} (f : List Entry → X) (g : Entry → X) (s : ℕ) → ((e : Entry) (older : List Entry) → f (e ∷ older) ≡ (if nat_eq s (length older + 1) then g e else f older))
    → (entries : List Entry) (p : ℕ) (e : Entry) → slice_get entries (s - 1) ≡ Some e → 0 < s → s ≤ p → p ≤ length entries → f (past entries p) ≡ g e
read_by {X} f g s step entries zero e at pos low high = absurd (omega (arith, pos, low))
read_by {X} f g s step entries (suc n) e at pos low high = by (cases_lt n s) (λ le. read_by f g s step entries n e at pos le (omega (arith, high)))
  where
    one : (x : Entry) × (slice_get entries n ≡ Some x)
    one = got entries n (omega (arith, high))

    count : length (past entries n) ≡ n
    count = past_count entries n (omega (arith, high))

    by : (n < s) ⊎ (s ≤ n) → (s ≤ n → f (past entries n) ≡ g e) → f (past entries (suc n)) ≡ g e
    by (inl above) rest =
        let place : s - 1 ≡ n = omega (arith, above, low) in
        let same : one.0 ≡ e = same_Some one.0 e (sym one.1 ∙ ap (λ (m : ℕ). slice_get entries m) (sym place) ∙ at) in
        ap f (past_next entries n one.0 one.1)
        ∙ step one.0 (past entries n)
        ∙ ap (λ (b : Bool). if b then g one.0 else f (past entries n)) (eq-eqb s (length (past entries n) + 1) (omega (arith, above, low, count)))
        ∙ ap g same
    by (inr le) rest =
        ap f (past_next entries n one.0 one.1)
        ∙ step one.0 (past entries n)
        ∙ ap (λ (b : Bool). if b then g one.0 else f (past entries n)) (ne_eqb s (length (past entries n) + 1) (λ same. omega (arith, same, le, count)))
        ∙ rest le

pub write_read : (entries : List Entry) (p s : ℕ) (e : Entry) → slice_get entries (s - 1) ≡ Some e → 0 < s → s ≤ p → p ≤ length entries → write_of (past entries p) s ≡ as_write e
write_read entries p s e = read_by (λ es. write_of es s) as_write s (λ e older. refl) entries p e

pub mark_read : (entries : List Entry) (p : ℕ) (m : Marked) (e : Entry) → slice_get entries (m.sync - 1) ≡ Some e → 0 < m.sync → m.sync ≤ p → p ≤ length entries → mark_at (past entries p) m ≡ mark_in_place (as_sync e) m.mark
mark_read entries p m e = read_by (λ es. mark_at es m) (λ e. mark_in_place (as_sync e) m.mark) m.sync (λ e older. refl) entries p e

-- what an index of more entries says of those up to a place
pub write_up_to : (es : List Entry) (seq k : ℕ) → seq ≤ k → write_of (entries_up_to es k) seq ≡ write_of es seq
write_up_to [] seq k low = refl
write_up_to (e ∷ older) seq k low = by (nat_le (length older + 1) k) refl (write_up_to older seq k low)
  where
    by : (b : Bool) → nat_le (length older + 1) k ≡ b → write_of (entries_up_to older k) seq ≡ write_of older seq → write_of (if b then e ∷ older else entries_up_to older k) seq ≡ write_of (e ∷ older) seq
    by true is rest = refl
    by false is rest = rest ∙ sym (at_older e older seq (omega (arith, low, leb-false (length older + 1) k is)))

pub after_up_to : (es : List Entry) (seq k : ℕ) → seq ≤ k → after_at (entries_up_to es k) seq ≡ after_at es seq
after_up_to [] seq k low = refl
after_up_to (e ∷ older) seq k low = by (nat_le (length older + 1) k) refl (after_up_to older seq k low)
  where
    by : (b : Bool) → nat_le (length older + 1) k ≡ b → after_at (entries_up_to older k) seq ≡ after_at older seq → after_at (if b then e ∷ older else entries_up_to older k) seq ≡ after_at (e ∷ older) seq
    by true is rest = refl
    by false is rest = rest ∙ sym (after_older e older seq (λ same. omega (arith, same, low, leb-false (length older + 1) k is)))

next_within : (es : List Entry) (seq next : ℕ) → next_at es seq ≡ Some next → next ≤ length es
next_within [] seq next is = absurd (none-some next is)
next_within (e ∷ older) seq next is = by (next_at older seq) (written_again e (write_of older seq)) (λ h. next_within older seq next h) is
  where
    by : (o : Option ℕ) (w : Option Write) → (o ≡ Some next → next ≤ length older) → next_or o w (length older + 1) ≡ Some next → next ≤ length (e ∷ older)
    by (Some k) w rest is = omega (arith, rest is)
    by None None rest is = absurd (none-some next is)
    by None (Some w) rest is = omega (arith, same_Some (length older + 1) next is)

pub counts_up_to : (es : List Entry) (seq k : ℕ) → is_last (next_at (entries_up_to es k) seq) ≡ counts_at es k seq
counts_up_to [] seq k = refl
counts_up_to (e ∷ older) seq k = by (nat_le (length older + 1) k) refl (counts_up_to older seq k)
  where
    all : (o : Option ℕ) → next_at (e ∷ older) seq ≡ o → nat_le (length older + 1) k ≡ true → is_last o ≡ is_behind k o
    all None at is = refl
    all (Some n) at is = behind (nat_le n k) refl
      where
        behind : (b : Bool) → nat_le n k ≡ b → false ≡ not b
        behind true low = refl
        behind false low = absurd (omega (arith, next_within (e ∷ older) seq n at, leb-true (length older + 1) k is, leb-false n k low))

    some : (o : Option ℕ) (w : Option Write) → nat_le (length older + 1) k ≡ false → is_last (next_at (entries_up_to older k) seq) ≡ is_behind k o → is_last (next_at (entries_up_to older k) seq) ≡ is_behind k (next_or o w (length older + 1))
    some (Some n) w is rest = rest
    some None None is rest = rest
    some None (Some w) is rest = rest ∙ sym (ap not is)

    by : (b : Bool) → nat_le (length older + 1) k ≡ b → is_last (next_at (entries_up_to older k) seq) ≡ counts_at older k seq → is_last (next_at (if b then e ∷ older else entries_up_to older k) seq) ≡ counts_at (e ∷ older) k seq
    by true is rest = all (next_at (e ∷ older) seq) refl is
    by false is rest = some (next_at older seq) (written_again e (write_of older seq)) is rest

-- an index of the first entries of a log, so many or more
module _ (index entries : List Entry) (k : ℕ) (indexed : IndexesTo index entries k) where
  pub index_high : k ≤ length entries
  index_high = omega (arith, indexed.1, indexed.2)

  pub index_up_to : entries_up_to index k ≡ past entries k
  index_up_to = ap (λ (es : List Entry). entries_up_to es k) indexed.3 ∙ up_to_past entries k indexed.0 indexed.1 indexed.2

  pub index_write : (seq : ℕ) → seq ≤ k → write_of index seq ≡ write_of (past entries k) seq
  index_write seq low = sym (write_up_to index seq k low) ∙ ap (λ (es : List Entry). write_of es seq) index_up_to

  pub index_after : (seq : ℕ) → seq ≤ k → after_at index seq ≡ after_at (past entries k) seq
  index_after seq low = sym (after_up_to index seq k low) ∙ ap (λ (es : List Entry). after_at es seq) index_up_to

  pub index_counts : (seq : ℕ) → counts_at index k seq ≡ is_last (next_at (past entries k) seq)
  index_counts seq = sym (counts_up_to index seq k) ∙ ap (λ (es : List Entry). is_last (next_at es seq)) index_up_to

  pub index_marked : (seq : ℕ) → seq ≤ k → marked_up_to index seq k ≡ mark_of_write (past entries k) seq (write_of (past entries k) seq)
  index_marked seq low = ap (λ (es : List Entry). mark_of_write es seq (write_of index seq)) index_up_to ∙ ap (λ (o : Option Write). mark_of_write (past entries k) seq o) (index_write seq low)

  pub index_lower : (m : ℕ) → m ≤ k → IndexesTo index entries m
  index_lower m low = (indexed.0, omega (arith, low, indexed.1), indexed.2, indexed.3)

-- the channels of a written revision
module _ (effects : (es : List Entry) (w : Sequenced) → effects_of es w ≡ effects_by es (marked_after es w) w.write) where
  of_written : (es : List Entry) (seq : ℕ) (o : Option Write) → mark_of_write es seq o ≡ None → written_channels o ≡ channels_by es seq o
  of_written es seq None is = refl
  of_written es seq (Some w) is =
      sym (ap (λ (f : Effects). f.channels) (effects es (record { seq = seq; write = w }) ∙ ap (λ (m : Option Marked). effects_by es m w) is))

  pub of_marked : (es : List Entry) (seq : ℕ) (m : Marked) (o : Option Write) → ((w : Sequenced) → marked_after es w ≡ Some m → IsSome (mark_at es m)) → mark_of_write es seq o ≡ Some m
      → marked_channels (mark_at es m) ≡ channels_by es seq o
  of_marked es seq m None there is = absurd (none-some m is)
  of_marked es seq m (Some w) there is = by (mark_at es m) refl (there (record { seq = seq; write = w }) is)
    where
      by : (o : Option Mark) → mark_at es m ≡ o → IsSome o → marked_channels o ≡ channels_by es seq (Some w)
      by None at some = absurd (false≢true some)
      by (Some mark) at some =
          sym (ap (λ (f : Effects). f.channels) (effects es (record { seq = seq; write = w })
          ∙ ap (λ (m : Option Marked). effects_by es m w) is
          ∙ ap (λ (o : Option Mark). effects_or o (recorded_effects w)) at))

  module _ (index entries : List Entry) (k : ℕ) (indexed : IndexesTo index entries k) (seq : ℕ) (pos : 0 < seq) (low : seq ≤ k) where
    pub read_written : marked_up_to index seq k ≡ None → channels_written (slice_get entries (seq - 1)) ≡ channels_at (past entries k) seq
    read_written none =
        let high : k ≤ length entries = index_high index entries k indexed in
        let one = got entries (seq - 1) (omega (arith, pos, low, high)) in
        ap channels_written one.1
        ∙ ap written_channels (sym (write_read entries k seq one.0 one.1 pos low high))
        ∙ of_written (past entries k) seq (write_of (past entries k) seq) (sym (index_marked index entries k indexed seq low) ∙ none)

    pub read_marked : (m : Marked) → ((w : Sequenced) → marked_after (past entries k) w ≡ Some m → IsSome (mark_at (past entries k) m)) → 0 < m.sync → m.sync ≤ k
        → marked_up_to index seq k ≡ Some m → channels_marked (slice_get entries (m.sync - 1)) m.mark ≡ channels_at (past entries k) seq
    read_marked m there above below is =
        let high : k ≤ length entries = index_high index entries k indexed in
        let one = got entries (m.sync - 1) (omega (arith, above, below, high)) in
        ap (λ (o : Option Entry). channels_marked o m.mark) one.1
        ∙ ap marked_channels (sym (mark_read entries k m one.0 one.1 above below high))
        ∙ of_marked (past entries k) seq m (write_of (past entries k) seq) there (sym (index_marked index entries k indexed seq low) ∙ is)

-- where a mark stands by an index
pub mark_within : (index entries : List Entry) (k : ℕ) → IndexesTo index entries k → (seq : ℕ) → seq ≤ k
    → ((w : Sequenced) (m : Marked) → marked_after (past entries k) w ≡ Some m → w.seq < m.sync)
    → ((w : Sequenced) (m : Marked) → marked_after (past entries k) w ≡ Some m → m.sync ≤ length (past entries k))
    → (m : Marked) → marked_up_to index seq k ≡ Some m → (seq < m.sync) × (m.sync ≤ k)
mark_within index entries k indexed seq low after within m is = by (write_of (past entries k) seq) (sym (index_marked index entries k indexed seq low) ∙ is)
  where
    by : (o : Option Write) → mark_of_write (past entries k) seq o ≡ Some m → (seq < m.sync) × (m.sync ≤ k)
    by None is = absurd (none-some m is)
    by (Some w) is = (
      after (record { seq = seq; write = w }) m is,
      omega (arith, within (record { seq = seq; write = w }) m is, past_count entries k (index_high index entries k indexed)),
    )

-- the last mark up to a place, by an index and by the entries up to there
pub index_same_mark : (index entries : List Entry) (k : ℕ) → IndexesTo index entries k → (seq : ℕ) → seq ≤ k → marked_up_to index seq k ≡ marked_up_to (past entries k) seq (length (past entries k))
index_same_mark index entries k indexed seq low =
    index_marked index entries k indexed seq low
    ∙ ap (λ (es : List Entry). mark_of_write es seq (write_of (past entries k) seq)) (sym (all_up_to (past entries k) (length (past entries k)) (omega arith)))
