-- where the state of a document stands, and what it gives by the entry there
use Rattle.std.proofs.Common.{◌≡◌, ◌≢◌, ◌<◌, ◌≤◌, ◌+◌, ◌-◌, ℕ, refl, sym, ◌∙◌, ap, subst, arith, inl, inr, Bool, true≢false, if◌then◌else◌, List, [], ◌∷◌, length, reverse, Option, Some, None, IsSome}
use Rattle.std.specs.Prelude.{IfSome, slice_get, nat_eq}
use Rattle.std.proofs.lemmas.Bool.{cases_Bool, eqb-true, eqb-false, le-leb}
use Rattle.std.proofs.lemmas.Option.{none-some, same_Some}
use Rattle.sg_history.specs.declared.entries.Entry.{Entry}
use Rattle.sg_history.specs.declared.entries.Mark.{Mark}
use Rattle.sg_history.specs.declared.entries.Write.{Write}
use Rattle.sg_history.specs.History.{as_sync, as_write}
use Rattle.sg_history.specs.Current.{Effects, Sequenced, current, current_after, effects_of, effects_or, recorded_effects, winning_of}
use Rattle.log_index.specs.declared.documents.Document.{Document}
use Rattle.log_index.specs.declared.marks.Marked.{Marked}
use Rattle.log_index.specs.Marks.{effects_by, entries_up_to, mark_at, mark_in_place, marked_after, mark_of_write, marked_up_to, write_of}
use Rattle.log_index.specs.Places.{document_at, document_before}
use Rattle.log_views.specs.At.{written, write_at}
use Rattle.log_views.specs.States.{since_by}
use Rattle.log_views.proofs.Placed.{found, newest_got, older_got}
use Rattle.grant_history.specs.declared.states.NewState.{NewState}
use Rattle.grant_history.specs.Facts.{document_facts, effect_facts}
use Rattle.grant_history.specs.Ledger.{facts_of_mark, facts_of_write, facts_read}
use Rattle.grant_history.specs.NewStates.{state_by, state_of}

-- what is said of the last marks of revisions
pub record MarkLaws : Type 0 where
  pub effects : (es : List Entry) (w : Sequenced) → effects_of es w ≡ effects_by es (marked_after es w) w.write
  pub there : (es : List Entry) (w : Sequenced) (m : Marked) → marked_after es w ≡ Some m → IsSome (mark_at es m)
  pub after : (es : List Entry) (w : Sequenced) (m : Marked) → marked_after es w ≡ Some m → w.seq < m.sync
  pub within : (es : List Entry) (w : Sequenced) (m : Marked) → marked_after es w ≡ Some m → m.sync ≤ length es

up_to_end : (es : List Entry) → entries_up_to es (length es) ≡ es
up_to_end [] = refl
up_to_end (e ∷ older) =
    ap (λ (b : Bool). if b then e ∷ older else entries_up_to older (length (e ∷ older))) (le-leb (length older + 1) (length (e ∷ older)) (omega arith))

write_of_is : (es : List Entry) (seq : ℕ) → 0 < seq → seq ≤ length es → write_of es seq ≡ write_at (reverse es) seq
write_of_is [] seq low high = absurd (omega (arith, low, high))
write_of_is (e ∷ older) seq low high = elim (cases_Bool (nat_eq seq (length older + 1))) [
  | inl is ↦
      let here : seq - 1 ≡ length older = omega (arith, eqb-true seq (length older + 1) is) in
      ap (λ (b : Bool). if b then as_write e else write_of older seq) is
      ∙ sym (ap written (ap (λ (n : ℕ). slice_get (reverse (e ∷ older)) n) here ∙ newest_got e older))
  | inr other ↦
      let apart : seq ≢ length older + 1 = eqb-false seq (length older + 1) other in
      let below : seq ≤ length older = omega (arith, high, apart) in
      ap (λ (b : Bool). if b then as_write e else write_of older seq) other
      ∙ write_of_is older seq low below
      ∙ sym (ap written (older_got e older (seq - 1) (omega (arith, low, below))))
]

mark_got : (es : List Entry) (m : Marked) (e : Entry) → 0 < m.sync → m.sync ≤ length es → slice_get (reverse es) (m.sync - 1) ≡ Some e → mark_at es m ≡ mark_in_place (as_sync e) m.mark
mark_got [] m e low high got = absurd (omega (arith, low, high))
mark_got (x ∷ older) m e low high got = elim (cases_Bool (nat_eq m.sync (length older + 1))) [
  | inl is ↦
      let here : m.sync - 1 ≡ length older = omega (arith, eqb-true m.sync (length older + 1) is) in
      let same : x ≡ e = same_Some x e (sym (ap (λ (n : ℕ). slice_get (reverse (x ∷ older)) n) here ∙ newest_got x older) ∙ got) in
      ap (λ (b : Bool). if b then mark_in_place (as_sync x) m.mark else mark_at older m) is
      ∙ ap (λ (y : Entry). mark_in_place (as_sync y) m.mark) same
  | inr other ↦
      let apart : m.sync ≢ length older + 1 = eqb-false m.sync (length older + 1) other in
      let below : m.sync ≤ length older = omega (arith, high, apart) in
      ap (λ (b : Bool). if b then mark_in_place (as_sync x) m.mark else mark_at older m) other
      ∙ mark_got older m e low below (sym (older_got x older (m.sync - 1) (omega (arith, low, below))) ∙ got)
]

some_facts : (o : Option Mark) (r : Effects) → IsSome o → facts_of_mark o ≡ effect_facts (effects_or o r)
some_facts None r h = absurd (true≢false (sym h))
some_facts (Some mark) r h = refl

module _ (es : List Entry) (doc : List ℕ) (d : Document) (at : document_at es doc ≡ Some d) where
  -- the mark that has the effects of the winner's write
  pub marked_is : marked_up_to es d.winning (length es) ≡ marked_after es (winning_of es doc (found es doc d at).last)
  marked_is =
      let f = found es doc d at in
      ap (λ (n : ℕ). marked_up_to es n (length es)) f.winning
      ∙ ap (λ (l : List Entry). mark_of_write l (winning_of es doc f.last).seq (write_of es (winning_of es doc f.last).seq)) (up_to_end es)
      ∙ ap (λ (o : Option Write). mark_of_write es (winning_of es doc f.last).seq o) (write_of_is es (winning_of es doc f.last).seq f.at.low f.at.high ∙ f.at.there)

  facts_are : document_facts (current es doc) ≡ effect_facts (effects_of es (winning_of es doc (found es doc d at).last))
  facts_are = ap (λ (o : Option Sequenced). document_facts (current_after es doc o)) (found es doc d at).last_is

  module _ (laws : MarkLaws) where
    low_by : (o : Option Marked) → marked_after es (winning_of es doc (found es doc d at).last) ≡ o → 1 ≤ since_by o d.winning
    low_by None is = let f = found es doc d at in omega (arith, f.winning, f.at.low)
    low_by (Some m) is = omega (arith, laws.after es (winning_of es doc (found es doc d at).last) m is)

    high_by : (o : Option Marked) → marked_after es (winning_of es doc (found es doc d at).last) ≡ o → since_by o d.winning ≤ length es
    high_by None is = let f = found es doc d at in omega (arith, f.winning, f.at.high)
    high_by (Some m) is = laws.within es (winning_of es doc (found es doc d at).last) m is

    read_by : (o : Option Marked) → marked_after es (winning_of es doc (found es doc d at).last) ≡ o → (e : Entry) → slice_get (reverse es) (since_by o d.winning - 1) ≡ Some e → facts_read e o ≡ document_facts (current es doc)
    read_by None is e got =
        let f = found es doc d at in
        let w = winning_of es doc f.last in
        ap facts_of_write (sym (ap written got) ∙ ap (λ (n : ℕ). write_at (reverse es) n) f.winning ∙ f.at.there)
        ∙ sym (facts_are ∙ ap effect_facts (laws.effects es w ∙ ap (λ (o : Option Marked). effects_by es o w.write) is))
    read_by (Some m) is e got =
        let f = found es doc d at in
        let w = winning_of es doc f.last in
        let low : 0 < m.sync = omega (arith, laws.after es w m is) in
        let same : mark_at es m ≡ mark_in_place (as_sync e) m.mark = mark_got es m e low (laws.within es w m is) got in
        ap facts_of_mark (sym same)
        ∙ some_facts (mark_at es m) (recorded_effects w.write) (laws.there es w m is)
        ∙ sym (facts_are ∙ ap effect_facts (laws.effects es w ∙ ap (λ (o : Option Marked). effects_by es o w.write) is))

-- a document's state, and where the document stands
pub record Stood (es : List Entry) (doc : List ℕ) (s : NewState) : Type 0 where
  pub document : Document
  pub at : document_at es doc ≡ Some document
  pub same : record { winning = document.winning; marked = marked_up_to es document.winning (length es) } ≡ s

pub stood : (es : List Entry) (doc : List ℕ) (s : NewState) → state_of es doc ≡ Some s → Stood es doc s
stood es doc s h = by (document_at es doc) refl h
  where
    by : (o : Option Document) → document_at es doc ≡ o → state_by es o ≡ Some s → Stood es doc s
    by None is h = absurd (none-some s h)
    by (Some d) is h = record { document = d; at = is; same = same_Some _ s h }

module _ (laws : MarkLaws) (es : List Entry) (doc : List ℕ) (s : NewState) (is : state_of es doc ≡ Some s) where
  pub since_low : 1 ≤ since_by s.marked s.winning
  since_low =
      let t = stood es doc s is in
      subst (λ (x : NewState). 1 ≤ since_by x.marked x.winning) t.same
      (subst (λ (o : Option Marked). 1 ≤ since_by o t.document.winning) (sym (marked_is es doc t.document t.at)) (low_by es doc t.document t.at laws _ refl))

  pub since_high : since_by s.marked s.winning ≤ length es
  since_high =
      let t = stood es doc s is in
      subst (λ (x : NewState). since_by x.marked x.winning ≤ length es) t.same
      (subst (λ (o : Option Marked). since_by o t.document.winning ≤ length es) (sym (marked_is es doc t.document t.at)) (high_by es doc t.document t.at laws _ refl))

  -- what is read there is what the document gives
  pub facts_stand : (e : Entry) → slice_get (reverse es) (since_by s.marked s.winning - 1) ≡ Some e → facts_read e s.marked ≡ document_facts (current es doc)
  facts_stand e =
      let t = stood es doc s is in
      subst (λ (x : NewState). slice_get (reverse es) (since_by x.marked x.winning - 1) ≡ Some e → facts_read e x.marked ≡ document_facts (current es doc)) t.same
      (subst (λ (o : Option Marked). slice_get (reverse es) (since_by o t.document.winning - 1) ≡ Some e → facts_read e o ≡ document_facts (current es doc)) (sym (marked_is es doc t.document t.at))
      (λ got. read_by es doc t.document t.at laws _ refl e got))

-- a document that stands nowhere gives nothing
pub nowhere : (es : List Entry) (doc : List ℕ) → state_of es doc ≡ None → document_at es doc ≡ None
nowhere es doc h = by (document_at es doc) refl h
  where
    by : (o : Option Document) → document_at es doc ≡ o → state_by es o ≡ None → o ≡ None
    by None is h = refl
    by (Some d) is h = absurd (none-some _ (sym h))

-- the winner of a document that was written has a sequence
any_low : (es : List Entry) (doc : List ℕ) → IfSome (state_of es doc) (λ s. 0 < s.winning)
any_low es doc = by (document_at es doc) refl
  where
    by : (o : Option Document) → document_at es doc ≡ o → IfSome (state_by es o) (λ s. 0 < s.winning)
    by None is = tt
    by (Some d) is = let f = found es doc d is in omega (arith, f.winning, f.at.low)

pub written_low : (es : List Entry) (o : Option Write) → IfSome (state_by es (document_before es o)) (λ s. 0 < s.winning)
written_low es None = tt
written_low es (Some w) = any_low es w.doc
