-- The rows of documents at their last changes, for any view and any state of documents of which a few facts hold.
use Rattle.std.proofs.Common.{◌≡◌, ℕ, ◌+◌, ◌<◌, ◌≤◌, refl, sym, ◌∙◌, ap, inl, inr, ◌⊎◌, ⊎_elim, arith, Bool, true, false, if◌then◌else◌, List, [], ◌∷◌, ◌++◌, length, length-append, Option, Some, None, suc}
use Rattle.std.proofs.lemmas.Bool.{false≢true}
use Rattle.std.proofs.lemmas.Option.{none-some, same_Some}
use Rattle.sg_names.specs.declared.rev_id.RevId.{RevId}
use Rattle.sg_names.specs.declared.key.Key.{Key}
use Rattle.sg_history.specs.declared.entries.Entry.{Entry}
use Rattle.sg_history.specs.declared.row.Row.{Row}
use Rattle.sg_history.specs.History.{documents}
use Rattle.sg_history.specs.Current.{Current}
use Rattle.sg_history.specs.View.{Shown, same_view}
use Rattle.sg_history.specs.Feed.{row_with, bits_of, writes}
use Rattle.sg_history.specs.Device.{held_of, held_after}
use Rattle.feed_rows.proofs.RowLists.{Has}
use Rattle.feed_rows.proofs.AnyFeed.{RowFacts}

-- what the rows need of what is shown of documents, and of what they are
pub record ViewFacts (view : List Entry → List ℕ → Option Shown) (current : List Entry → List ℕ → Option Current) : Type 0 where
  -- what is shown of a document is what it is
  pub seen : (es : List Entry) (doc : List ℕ) (s : Shown) → view es doc ≡ Some s → (c : Current) × (current es doc ≡ Some c) × (s ≡ record { seq = c.seq; rev = c.rev; deleted = c.deleted })
  -- nothing is shown before the first entry
  pub nothing : (doc : List ℕ) → view [] doc ≡ None
  -- a document stays
  pub stays : (e : Entry) (es : List Entry) (doc : List ℕ) (c : Current) → current es doc ≡ Some c → (d : Current) × (current (e ∷ es) doc ≡ Some d)
  -- its sequence is a place of the entries
  pub positive : (es : List Entry) (doc : List ℕ) (c : Current) → current es doc ≡ Some c → 1 ≤ c.seq
  pub bounded : (es : List Entry) (doc : List ℕ) (c : Current) → current es doc ≡ Some c → c.seq ≤ length es
  -- two documents have two sequences
  pub apart : (es : List Entry) (a b : List ℕ) (c d : Current) → current es a ≡ Some c → current es b ≡ Some d → c.seq ≡ d.seq → a ≡ b
  -- it was written
  pub written : (es : List Entry) (doc : List ℕ) (c : Current) → current es doc ≡ Some c → Has (documents es) doc
  -- views that are tested to be the same are the same
  pub tested : (a b : Option Shown) → same_view a b ≡ true → a ≡ b

-- the entries up to the last change of a view
abbrev pub changed_by : (List Entry → List ℕ → Option Shown) → List Entry → List ℕ → List Entry
changed_by view [] doc = []
changed_by view (e ∷ older) doc = if same_view (view (e ∷ older) doc) (view older doc) then changed_by view older doc else e ∷ older

-- the row of a document that changed by the newest of these entries
abbrev pub row_from : (List Entry → List ℕ → Option Shown) → (List Entry → List ℕ → Option Current) → List ℕ → List Entry → Option Row
row_from view current doc [] = None
row_from view current doc (e ∷ older) = row_with (length older + 1) (writes e doc) (view (e ∷ older) doc) doc (current (e ∷ older) doc)

-- the row of a document, at its last change
abbrev pub row_by : (List Entry → List ℕ → Option Shown) → (List Entry → List ℕ → Option Current) → List Entry → List ℕ → Option Row
row_by view current es doc = row_from view current doc (changed_by view es doc)

-- the entries are the last ones of these
abbrev pub EndsWith : List Entry → List Entry → Type 0
EndsWith es ending = (more : List Entry) × (es ≡ more ++ ending)

ends_of_one_length : (xs ys cs bs : List Entry) → xs ++ cs ≡ ys ++ bs → length cs ≡ length bs → cs ≡ bs
ends_of_one_length [] [] cs bs e l = e
ends_of_one_length [] (y ∷ ys) cs bs e l = let h = ap length e in absurd (omega (arith, h, length-append ys bs))
ends_of_one_length (x ∷ xs) [] cs bs e l = let h = ap length e in absurd (omega (arith, h, length-append xs cs))
ends_of_one_length (x ∷ xs) (y ∷ ys) cs bs e l = ends_of_one_length xs ys cs bs (cc) l

pub same_endings : (es cs bs : List Entry) → EndsWith es cs → EndsWith es bs → length cs ≡ length bs → cs ≡ bs
same_endings es cs bs x y l = ends_of_one_length x.0 y.0 cs bs (sym x.1 ∙ y.1) l

pub ending_length : (es ending : List Entry) → EndsWith es ending → length ending ≤ length es
ending_length es ending x = let h = ap length x.1 in omega (arith, h, length-append x.0 ending)

-- what a row has, as its document is
row_of_state : (by : ℕ) (wrote : Bool) (shown : Option Shown) (doc : List ℕ) (now : Option Current) (r : Row) → row_with by wrote shown doc now ≡ Some r → (c : Current) × (now ≡ Some c) × (r ≡ record { key = record { by = by; seq = c.seq }; doc = doc; rev = c.rev; bits = bits_of shown wrote c.deleted })
row_of_state by wrote shown doc None r h = absurd (cc)
row_of_state by wrote shown doc (Some c) r h = (c, refl, cc)

abbrev shown_of : Current → Shown
shown_of c = record { seq = c.seq; rev = c.rev; deleted = c.deleted }

-- a row says what is shown where it was made
held_of_bits : (o : Option Shown) (seq : ℕ) (rev : RevId) (deleted wrote : Bool) (key : Key) (doc : List ℕ) → ((s : Shown) → o ≡ Some s → s ≡ record { seq = seq; rev = rev; deleted = deleted }) → held_of o ≡ held_after (record { key = key; doc = doc; rev = rev; bits = bits_of o wrote deleted })
held_of_bits None seq rev true true key doc h = refl
held_of_bits None seq rev false true key doc h = refl
held_of_bits None seq rev true false key doc h = refl
held_of_bits None seq rev false false key doc h = refl
held_of_bits (Some s) seq rev true wrote key doc h = ap (λ (x : Shown). held_of (Some x)) (h s refl)
held_of_bits (Some s) seq rev false wrote key doc h = ap (λ (x : Shown). held_of (Some x)) (h s refl)

held_of_row : (o : Option Shown) (c : Current) (by : ℕ) (doc : List ℕ) (wrote : Bool) → ((s : Shown) → o ≡ Some s → s ≡ shown_of c) → held_of o ≡ held_after (record { key = record { by = by; seq = c.seq }; doc = doc; rev = c.rev; bits = bits_of o wrote c.deleted })
held_of_row o c by doc wrote h = held_of_bits o c.seq c.rev c.deleted wrote (record { by = by; seq = c.seq }) doc h

module _ (view : List Entry → List ℕ → Option Shown) (current : List Entry → List ℕ → Option Current) (facts : ViewFacts view current) where
  -- the last change is at a place of the entries
  pub changed_ends : (es : List Entry) (doc : List ℕ) → EndsWith es (changed_by view es doc)
  changed_ends [] doc = ([], refl)
  changed_ends (e ∷ older) doc = go (same_view (view (e ∷ older) doc) (view older doc)) (changed_by view older doc) (changed_ends older doc)
    where
      go : (b : Bool) (before : List Entry) → EndsWith older before → EndsWith (e ∷ older) (if b then before else e ∷ older)
      go true before x = (e ∷ x.0, ap (λ (y : List Entry). e ∷ y) x.1)
      go false before x = ([], refl)

  -- since the last change the view is the same
  pub same_since : (es : List Entry) (doc : List ℕ) → view es doc ≡ view (changed_by view es doc) doc
  same_since [] doc = refl
  same_since (e ∷ older) doc = go (same_view (view (e ∷ older) doc) (view older doc)) refl (changed_by view older doc) (same_since older doc)
    where
      go : (b : Bool) → same_view (view (e ∷ older) doc) (view older doc) ≡ b → (before : List Entry) → view older doc ≡ view before doc → view (e ∷ older) doc ≡ view (if b then before else e ∷ older) doc
      go true h before x = facts.tested _ _ h ∙ x
      go false h before x = refl

  -- at a change there is a document
  pub changed_has : (es : List Entry) (doc : List ℕ) → (changed_by view es doc ≡ []) ⊎ ((c : Current) × (current (changed_by view es doc) doc ≡ Some c))
  changed_has [] doc = inl refl
  changed_has (e ∷ older) doc = go (same_view (view (e ∷ older) doc) (view older doc)) refl (changed_by view older doc) (changed_has older doc)
    where
      at : (a b : Option Shown) → view (e ∷ older) doc ≡ a → view older doc ≡ b → same_view a b ≡ false → (c : Current) × (current (e ∷ older) doc ≡ Some c)
      at None None h k x = absurd (false≢true (sym x))
      at None (Some s) h k x = let there = facts.seen older doc s k in facts.stays e older doc there.0 there.1
      at (Some s) b h k x = let there = facts.seen (e ∷ older) doc s h in (there.0, there.1)

      go : (b : Bool) → same_view (view (e ∷ older) doc) (view older doc) ≡ b → (before : List Entry) → (before ≡ []) ⊎ ((c : Current) × (current before doc ≡ Some c)) → ((if b then before else e ∷ older) ≡ []) ⊎ ((c : Current) × (current (if b then before else e ∷ older) doc ≡ Some c))
      go true h before x = x
      go false h before x = inr (at (view (e ∷ older) doc) (view older doc) refl refl h)

  -- after more entries the last change is the same, or is past those before
  pub changed_later : (more es : List Entry) (doc : List ℕ) → (changed_by view (more ++ es) doc ≡ changed_by view es doc) ⊎ (length es < length (changed_by view (more ++ es) doc))
  changed_later [] es doc = inl refl
  changed_later (e ∷ more) es doc = go (same_view (view (e ∷ (more ++ es)) doc) (view (more ++ es) doc)) (changed_by view (more ++ es) doc) (changed_later more es doc)
    where
      go : (b : Bool) (before : List Entry) → (before ≡ changed_by view es doc) ⊎ (length es < length before) → ((if b then before else e ∷ (more ++ es)) ≡ changed_by view es doc) ⊎ (length es < length (if b then before else e ∷ (more ++ es)))
      go true before x = x
      go false before x = inr (omega (arith, length-append more es))

  -- a document stays through more entries
  stays_on : (more es : List Entry) (doc : List ℕ) (c : Current) → current es doc ≡ Some c → (d : Current) × (current (more ++ es) doc ≡ Some d)
  stays_on [] es doc c h = (c, h)
  stays_on (e ∷ more) es doc c h = let rest = stays_on more es doc c h in facts.stays e (more ++ es) doc rest.0 rest.1

  -- what a row at a change has
  pub row_has : (at : List Entry) (doc : List ℕ) (r : Row) → row_from view current doc at ≡ Some r → (c : Current) × (current at doc ≡ Some c) × ((wrote : Bool) × (r ≡ record { key = record { by = length at; seq = c.seq }; doc = doc; rev = c.rev; bits = bits_of (view at doc) wrote c.deleted }))
  row_has [] doc r h = absurd (cc)
  row_has (e ∷ older) doc r h =
      let x = row_of_state _ _ _ _ _ r h in
      let l : length older + 1 ≡ suc (length older) = omega arith in
      (x.0, x.1, (writes e doc, rw (← l) x.2))

  -- there is a row where there is a document
  row_there : (at : List Entry) (doc : List ℕ) (c : Current) → 0 < length at → current at doc ≡ Some c → (r : Row) × (row_from view current doc at ≡ Some r)
  row_there [] doc c l h = absurd (omega arith)
  row_there (e ∷ older) doc c l h = (record { key = record { by = length older + 1; seq = c.seq }; doc = doc; rev = c.rev; bits = bits_of (view (e ∷ older) doc) (writes e doc) c.deleted }, rw h refl)

  current_long : (at : List Entry) (doc : List ℕ) (c : Current) → current at doc ≡ Some c → 0 < length at
  current_long at doc c h = omega (arith, facts.positive at doc c h, facts.bounded at doc c h)

  shown_at : (at : List Entry) (doc : List ℕ) (r : Row) → row_from view current doc at ≡ Some r → held_of (view at doc) ≡ held_after r
  shown_at at doc r h =
      let x = row_has at doc r h in
      let of : (s : Shown) → view at doc ≡ Some s → s ≡ record { seq = x.0.seq; rev = x.0.rev; deleted = x.0.deleted } = λ s e. seen_again at doc s x.0 e x.1 in
      held_of_row (view at doc) x.0 (length at) doc x.2.0 of ∙ ap held_after (sym x.2.1)
    where
      seen_again : (at : List Entry) (doc : List ℕ) (s : Shown) (c : Current) → view at doc ≡ Some s → current at doc ≡ Some c → s ≡ record { seq = c.seq; rev = c.rev; deleted = c.deleted }
      seen_again at doc s c e h =
          let y = facts.seen at doc s e in
          let same : y.0 ≡ c = same_Some y.0 c (sym y.1 ∙ h) in
          y.2 ∙ ap shown_of same

  -- the key of a row at a change: its place, and the sequence of its document there
  row_key : (at : List Entry) (doc : List ℕ) (r : Row) → row_from view current doc at ≡ Some r → (c : Current) × (current at doc ≡ Some c) × (r.key.by ≡ length at) × (r.key.seq ≡ c.seq)
  row_key at doc r h =
      let x = row_has at doc r h in
      (x.0, x.1, ap (λ (y : Row). y.key.by) x.2.1, ap (λ (y : Row). y.key.seq) x.2.1)

  apart_at : (es : List Entry) (a b : List ℕ) (r s : Row) → row_by view current es a ≡ Some r → row_by view current es b ≡ Some s → r.key ≡ s.key → a ≡ b
  apart_at es a b r s h k e =
      let x = row_key (changed_by view es a) a r h in
      let y = row_key (changed_by view es b) b s k in
      let one_place : changed_by view es a ≡ changed_by view es b = same_endings es _ _ (changed_ends es a) (changed_ends es b) (sym x.2 ∙ ap (λ (key : Key). key.by) e ∙ y.2) in
      facts.apart (changed_by view es a) a b x.0 y.0 x.1 (ap (λ (at : List Entry). current at b) one_place ∙ y.1) (sym x.3 ∙ ap (λ (key : Key). key.seq) e ∙ y.3)

  hidden_at : (es : List Entry) (doc : List ℕ) → row_by view current es doc ≡ None → held_of (view es doc) ≡ None
  hidden_at es doc h =
      elim (changed_has es doc) [
        | inl e ↦ ap held_of (same_since es doc ∙ ap (λ (at : List Entry). view at doc) e ∙ facts.nothing doc)
        | inr x ↦ let r = row_there (changed_by view es doc) doc x.0 (current_long _ doc x.0 x.1) x.1 in absurd (none-some _ (sym h ∙ r.1))
      ]

  written_at : (es : List Entry) (doc : List ℕ) (r : Row) → row_by view current es doc ≡ Some r → Has (documents es) doc
  written_at es doc r h =
      let x = row_has (changed_by view es doc) doc r h in
      let place = changed_ends es doc in
      let on = stays_on place.0 (changed_by view es doc) doc x.0 x.1 in
      facts.written es doc on.0 (ap (λ (at : List Entry). current at doc) place.1 ∙ on.1)

  later_at : (more es : List Entry) (doc : List ℕ) → ((row_by view current (more ++ es) doc ≡ row_by view current es doc) × (held_of (view (more ++ es) doc) ≡ held_of (view es doc))) ⊎ ((r : Row) × (row_by view current (more ++ es) doc ≡ Some r) × (length es < r.key.by))
  later_at more es doc =
      ⊎_elim
      (λ e. inl (ap (row_from view current doc) e, ap held_of (same_since (more ++ es) doc ∙ ap (λ (at : List Entry). view at doc) e ∙ sym (same_since es doc))))
      (λ l. inr (changed_row l (changed_has (more ++ es) doc)))
      (changed_later more es doc)
    where
      changed_row : length es < length (changed_by view (more ++ es) doc) → (changed_by view (more ++ es) doc ≡ []) ⊎ ((c : Current) × (current (changed_by view (more ++ es) doc) doc ≡ Some c)) → (r : Row) × (row_by view current (more ++ es) doc ≡ Some r) × (length es < r.key.by)
      changed_row l (inl e) = absurd (let h = ap length e in omega (arith, h))
      changed_row l (inr x) =
          let r = row_there (changed_by view (more ++ es) doc) doc x.0 (current_long _ doc x.0 x.1) x.1 in
          let key = row_key (changed_by view (more ++ es) doc) doc r.0 r.1 in
          (r.0, r.1, omega (arith, key.2, l))

  pub row_facts : RowFacts (row_by view current) (λ es doc. held_of (view es doc))
  row_facts = record {
    own = λ es doc r h. ap (λ (y : Row). y.doc) (row_has (changed_by view es doc) doc r h).2.1;
    positive = λ es doc r h. let x = row_key (changed_by view es doc) doc r h in omega (arith, x.3, facts.positive _ doc x.0 x.1);
    seq_bound = λ es doc r h. let x = row_key (changed_by view es doc) doc r h in omega (arith, x.2, x.3, facts.bounded _ doc x.0 x.1);
    by_bound = λ es doc r h. let x = row_key (changed_by view es doc) doc r h in omega (arith, x.2, ending_length es _ (changed_ends es doc));
    apart = apart_at;
    shows = λ es doc r h. ap held_of (same_since es doc) ∙ shown_at (changed_by view es doc) doc r h;
    hidden = hidden_at;
    written = written_at;
    later = later_at;
  }
