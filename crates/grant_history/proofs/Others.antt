-- documents that give something else, of those that give something
use Rattle.std.proofs.Common.{◌≡◌, ◌+◌, ℕ, refl, sym, ◌∙◌, ap, subst, arith, Bool, true, false, ◌||◌, if◌then◌else◌, List, [], ◌∷◌, ◌++◌}
use Rattle.std.specs.Str.{bytes_eq}
use Rattle.std.specs.Cmp.Lexicographic.{bytes_decides}
use Rattle.std.proofs.lemmas.Bool.{false≢true}
use Rattle.sg_history.specs.declared.entries.Entry.{Entry}
use Rattle.grant_history.specs.declared.facts.Fact.{Fact}
use Rattle.grant_history.specs.declared.ledger.Ledger.{Ledger}
use Rattle.grant_history.specs.Facts.{same_facts, times}
use Rattle.grant_history.specs.inner.Changes.{AreChanges, DocumentFacts, all_times, given_after, given_at, given_before, given_with, others}
use Rattle.grant_history.specs.Ledger.{document, kept_of, GiveSame}
use Rattle.grant_history.proofs.Same.{list_itself, same_lists}
use Rattle.grant_history.proofs.Summing.{Gives, after_same, before_same}
use Rattle.grant_tracks.proofs.Same.{text_itself}

pub others_append : (g : Gives) (xs ys : List DocumentFacts) → others g (xs ++ ys) ≡ others g xs ++ others g ys
others_append g [] ys = refl
others_append g (x ∷ xs) ys = by (same_facts (g x.doc) x.facts) (others_append g xs ys)
  where
    by : (b : Bool) → others g (xs ++ ys) ≡ others g xs ++ others g ys → (if b then others g (xs ++ ys) else x ∷ others g (xs ++ ys)) ≡ (if b then others g xs else x ∷ others g xs) ++ others g ys
    by true rest = rest
    by false rest = ap (λ (l : List DocumentFacts). x ∷ l) rest

others_same : (g h : Gives) → ((d : List ℕ) → g d ≡ h d) → (cs : List DocumentFacts) → others g cs ≡ others h cs
others_same g h same [] = refl
others_same g h same (c ∷ cs) =
    ap (λ (l : List Fact). if same_facts l c.facts then others g cs else c ∷ others g cs) (same c.doc)
    ∙ ap (λ (l : List DocumentFacts). if same_facts (h c.doc) c.facts then l else c ∷ l) (others_same g h same cs)

-- whether a document is among these
abbrev pub has_doc : List DocumentFacts → List ℕ → Bool
has_doc [] d = false
has_doc (c ∷ cs) d = bytes_eq c.doc d || has_doc cs d

-- each document is there once
abbrev pub AreOnce : List DocumentFacts → Type 0
AreOnce [] = Unit {0}
AreOnce (c ∷ cs) = (has_doc cs c.doc ≡ false) × AreOnce cs

-- both say the same of the documents of these
abbrev Agree : Gives → Gives → List DocumentFacts → Type 0
Agree g h cs = (d : List ℕ) → has_doc cs d ≡ true → g d ≡ h d

kept_with : (h : Gives) (c : DocumentFacts) → h c.doc ≡ c.facts → (d : List ℕ) → given_with h c d ≡ h d
kept_with h c same d = by (bytes_eq c.doc d) refl
  where
    by : (b : Bool) → bytes_eq c.doc d ≡ b → (if b then c.facts else h d) ≡ h d
    by true is = sym same ∙ ap h ((bytes_decides c.doc d).0 is)
    by false is = refl

module _ (g h : Gives) (c : DocumentFacts) (cs : List DocumentFacts) (once : AreOnce (c ∷ cs)) (agree : Agree g h (c ∷ cs)) where
  agree_next : Agree g (given_with h c) cs
  agree_next d there = by (bytes_eq c.doc d) refl
    where
      by : (b : Bool) → bytes_eq c.doc d ≡ b → g d ≡ (if b then c.facts else h d)
      by true is = absurd (false≢true (sym once.0 ∙ ap (has_doc cs) ((bytes_decides c.doc d).0 is) ∙ there))
      by false is = agree d (ap (λ (b : Bool). b || has_doc cs d) is ∙ there)

  gave_that : same_facts (g c.doc) c.facts ≡ true → h c.doc ≡ c.facts
  gave_that is = sym (agree c.doc (ap (λ (b : Bool). b || has_doc cs c.doc) (text_itself c.doc))) ∙ same_lists (g c.doc) c.facts is

after_others : (g h : Gives) (cs : List DocumentFacts) → AreOnce cs → Agree g h cs → (d : List ℕ) → given_after h (others g cs) d ≡ given_after h cs d
after_others g h [] once agree d = refl
after_others g h (c ∷ cs) once agree d =
    by (same_facts (g c.doc) c.facts) refl (after_others g (given_with h c) cs once.1 (agree_next g h c cs once agree) d)
  where
    by : (b : Bool) → same_facts (g c.doc) c.facts ≡ b → given_after (given_with h c) (others g cs) d ≡ given_after (given_with h c) cs d
        → given_after h (if b then others g cs else c ∷ others g cs) d ≡ given_after (given_with h c) cs d
    by true is rest = sym (after_same (given_with h c) h (kept_with h c (gave_that g h c cs once agree is)) (others g cs) d) ∙ rest
    by false is rest = rest

before_others : (g h : Gives) (cs : List DocumentFacts) → AreOnce cs → Agree g h cs → (f : Fact)
    → all_times (given_before h cs) f + all_times (others g cs) f ≡ all_times (given_before h (others g cs)) f + all_times cs f
before_others g h [] once agree f = refl
before_others g h (c ∷ cs) once agree f =
    by (same_facts (g c.doc) c.facts) refl (before_others g (given_with h c) cs once.1 (agree_next g h c cs once agree) f)
  where
    by : (b : Bool) → same_facts (g c.doc) c.facts ≡ b
        → all_times (given_before (given_with h c) cs) f + all_times (others g cs) f ≡ all_times (given_before (given_with h c) (others g cs)) f + all_times cs f
        → all_times (given_before h (c ∷ cs)) f + all_times (if b then others g cs else c ∷ others g cs) f ≡ all_times (given_before h (if b then others g cs else c ∷ others g cs)) f + all_times (c ∷ cs) f
    by true is rest =
        let that = gave_that g h c cs once agree is in
        let one : times (h c.doc) f ≡ times c.facts f = ap (λ (l : List Fact). times l f) that in
        omega (arith, rest, one, before_same (given_with h c) h (kept_with h c that) (others g cs) f)
    by false is rest = omega (arith, rest)

-- the others alone make the same difference
pub fewer_changes : (kept : Ledger) (at : ℕ) (cs : List DocumentFacts) (e : Entry) (es : List Entry) → AreOnce cs → AreChanges kept at cs e es → AreChanges kept at (others (kept_of kept) cs) e es
fewer_changes kept at cs e es once is = subst (λ (l : List DocumentFacts). AreChanges kept at l e es) (sym same) (record {
  place = is.place;
  is_kept = is.is_kept;
  documents = λ doc. is.documents doc ∙ sym (after_others (given_at es) (given_at es) cs once (λ d there. refl) doc);
  users = is.users;
  roles = is.roles;
  sums = λ f. omega (arith, is.sums f, before_others (given_at es) (given_at es) cs once (λ d there. refl) f);
})
  where
    same : others (kept_of kept) cs ≡ others (given_at es) cs
    same = others_same (kept_of kept) (given_at es) (λ d. is.is_kept.lists (document d)) cs

-- a document that is not among these gives what it gave
unlisted : (h : Gives) (cs : List DocumentFacts) (d : List ℕ) → has_doc cs d ≡ false → given_after h cs d ≡ h d
unlisted h [] d none = refl
unlisted h (c ∷ cs) d none =
    let both = neither (bytes_eq c.doc d) (has_doc cs d) none in
    unlisted (given_with h c) cs d both.1 ∙ ap (λ (b : Bool). if b then c.facts else h d) both.0
  where
    neither : (a b : Bool) → (a || b) ≡ false → (a ≡ false) × (b ≡ false)
    neither true b h = absurd (false≢true (sym h))
    neither false b h = (refl, h)

-- where each document gives what it gave, none of these is another
pub none_other : (g : Gives) (cs : List DocumentFacts) → AreOnce cs → ((d : List ℕ) → given_after g cs d ≡ g d) → others g cs ≡ []
none_other g [] once same = refl
none_other g (c ∷ cs) once same =
    let that : g c.doc ≡ c.facts =
    sym (same c.doc)
    ∙ unlisted (given_with g c) cs c.doc once.0
    ∙ ap (λ (b : Bool). if b then c.facts else g c.doc) (text_itself c.doc) in
    let rest = none_other g cs once.1 (λ d. sym (after_same (given_with g c) g (kept_with g c that) cs d) ∙ same d) in
    ap (λ (b : Bool). if b then others g cs else c ∷ others g cs) (ap (λ (l : List Fact). same_facts l c.facts) that ∙ list_itself c.facts) ∙ rest

pub no_changes : (kept : Ledger) (at : ℕ) (cs : List DocumentFacts) (e : Entry) (es : List Entry) → AreOnce cs → AreChanges kept at cs e es → GiveSame (e ∷ es) es → others (kept_of kept) cs ≡ []
no_changes kept at cs e es once is same =
    others_same (kept_of kept) (given_at es) (λ d. is.is_kept.lists (document d)) cs
    ∙ none_other (given_at es) cs once (λ d. sym (is.documents d) ∙ same (document d))
