-- what an entry does to the sources of a fact
use Rattle.std.proofs.Common.{◌≡◌, ◌+◌, ℕ, refl, sym, ◌∙◌, ap, subst, arith, Bool, true, false, ◌&&◌, ◌||◌, if◌then◌else◌, List, [], ◌∷◌, ◌++◌, length, map, Option, Some, None}
use Rattle.std.specs.BTreeMap.{get_by_text}
use Rattle.std.specs.Str.{bytes_eq}
use Rattle.std.specs.Cmp.Lexicographic.{bytes_decides}
use Rattle.std.proofs.lemmas.Bool.{false≢true, true≢false}
use Rattle.std.proofs.lemmas.Option.{none-some}
use Rattle.sg_names.specs.declared.grants.Grantee.{Grantee}
use Rattle.sg_names.specs.declared.grants.Grantee.TheVariants.{User, Role}
use Rattle.sg_history.specs.declared.entries.Entry.{Entry}
use Rattle.sg_history.specs.declared.entries.Write.{Write}
use Rattle.sg_history.specs.declared.entries.Entry.TheVariants as entry
use Rattle.sg_history.specs.History.{SyncEntry, among, as_sync, as_write, of_document, write_to}
use Rattle.sg_history.specs.Current.{Sequenced, Current, sequenced_or, last_write, current, current_after, mark_in, marked_by, marked_state}
use Rattle.sg_history.specs.Principals.{PrincipalState, Put, as_put, same_grantee, principal_after, user_at, role_at}
use Rattle.grant_tracks.specs.declared.things.What.{What}
use Rattle.grant_tracks.specs.declared.things.What.TheVariants as what
use Rattle.grant_history.specs.declared.facts.Fact.{Fact}
use Rattle.grant_tracks.specs.What.{same_what}
use Rattle.grant_history.specs.Facts.{same_fact, times, fact, channel_facts, role_facts, put_facts, document_facts}
use Rattle.grant_history.specs.Ledger.{Lists, facts_in, facts_of_list}
use Rattle.grant_history.specs.Sources.{principal_of, with_document, documents_once, given_by, sources}
use Rattle.grant_tracks.proofs.Same.{texts_swap}
use Rattle.grant_history.proofs.Same.{grantees}

pub times_append : (xs ys : List Fact) (f : Fact) → times (xs ++ ys) f ≡ times xs f + times ys f
times_append [] ys f = omega arith
times_append (x ∷ xs) ys f = omega (arith, times_append xs ys f)

-- facts of another have none of these
foreign_map : (of : Grantee) (make : List ℕ → What) (xs : List (List ℕ)) (f : Fact) → same_grantee of f.of ≡ false → times (map (λ x. fact of (make x)) xs) f ≡ 0
foreign_map of make [] f h = refl
foreign_map of make (x ∷ xs) f h =
    let here : ◌≡◌ {A = ℕ} (if same_fact (fact of (make x)) f then 1 else 0) 0 = ap (λ (b : Bool). if b && same_what (make x) f.what then 1 else 0) h in
    omega (arith, here, foreign_map of make xs f h)

foreign : (of : Grantee) (s : Option PrincipalState) (f : Fact) → same_grantee of f.of ≡ false → times (put_facts of s) f ≡ 0
foreign of None f h = refl
foreign of (Some s) f h =
    let here : ◌≡◌ {A = ℕ} (if same_fact (fact of what.Exists) f then 1 else 0) 0 = ap (λ (b : Bool). if b && same_what what.Exists f.what then 1 else 0) h in
    omega (arith, here, times_append (channel_facts of s.channels) (role_facts of s.roles) f, foreign_map of (λ c. what.Channel c) s.channels f h, foreign_map of (λ r. what.Role r) s.roles f h)

pub or_left : (a b : Bool) → (a || b) ≡ false → a ≡ false
or_left true b h = h
or_left false b h = refl

pub or_right : (a b : Bool) → (a || b) ≡ false → b ≡ false
or_right true b h = absurd (true≢false h)
or_right false b h = h

pub or_other : (a b : Bool) → a ≡ false → (a || b) ≡ true → b ≡ true
or_other true b h g = absurd (true≢false h)
or_other false b h g = g

-- what an entry makes of the documents that it does not write
abbrev pub Unwritten : Type 0
Unwritten = (e : Entry) (older : List Entry) (doc : List ℕ) → write_to e doc ≡ None → current (e ∷ older) doc ≡ marked_by e doc (current older doc)

-- a write, a put or a drop replaces no sync function
pub write_alone : (e : Entry) (w : Write) → as_write e ≡ Some w → as_sync e ≡ None
write_alone (entry.Write v) w is = refl
write_alone (entry.PutUser name channels roles) w is = refl
write_alone (entry.PutRole name channels) w is = refl
write_alone (entry.DropUser name) w is = refl
write_alone (entry.DropRole name) w is = refl
write_alone (entry.Sync text marks) w is = absurd (none-some w is)
write_alone entry.Unused w is = refl

module _ (e : Entry) (es : List Entry) where
  pub unwritten : (doc : List ℕ) → as_write e ≡ None → write_to e doc ≡ None
  unwritten doc h = ap (λ (o : Option Write). of_document o doc) h

  pub apart : (w : Write) → as_write e ≡ Some w → (doc : List ℕ) → bytes_eq doc w.doc ≡ false → write_to e doc ≡ None
  apart w is doc h =
      ap (λ (o : Option Write). of_document o doc) is
      ∙ ap (λ (b : Bool). if b then Some w else None) (texts_swap w.doc doc ∙ h)

  pub principal_same : (of : Grantee) → as_put e ≡ None → principal_of (e ∷ es) of ≡ principal_of es of
  principal_same (User user) h = ap (λ (o : Option Put). principal_after o (User user) (user_at es user)) h
  principal_same (Role role) h = ap (λ (o : Option Put). principal_after o (Role role) (role_at es role)) h

  pub principal_put : (of : Grantee) (p : Put) → as_put e ≡ Some p → principal_of (e ∷ es) of ≡ (if same_grantee p.of of then p.state else principal_of es of)
  principal_put (User user) p h = ap (λ (o : Option Put). principal_after o (User user) (user_at es user)) h
  principal_put (Role role) p h = ap (λ (o : Option Put). principal_after o (Role role) (role_at es role)) h

  pub once_idle : as_write e ≡ None → documents_once (e ∷ es) ≡ documents_once es
  once_idle h = ap (λ (o : Option Write). with_document o (documents_once es)) h

  module _ (law : Unwritten) (no : as_sync e ≡ None) where
    -- a document that the entry neither writes nor marks is what it was
    unmarked : (doc : List ℕ) (c : Option Current) → marked_by e doc c ≡ c
    unmarked doc None = refl
    unmarked doc (Some c) = ap (λ (o : Option SyncEntry). Some (marked_state (mark_in o doc c.rev) c)) no

    pub current_same : (doc : List ℕ) → write_to e doc ≡ None → current (e ∷ es) doc ≡ current es doc
    current_same doc h = law e es doc h ∙ unmarked doc (current es doc)

    given_idle : (docs : List (List ℕ)) (f : Fact) → as_write e ≡ None → given_by (e ∷ es) docs f ≡ given_by es docs f
    given_idle [] f h = refl
    given_idle (d ∷ ds) f h =
        ap (λ (c : Option Current). times (document_facts c) f + given_by (e ∷ es) ds f) (current_same d (unwritten d h))
        ∙ ap (λ (n : ℕ). times (document_facts (current es d)) f + n) (given_idle ds f h)

    pub idle_step : as_write e ≡ None → as_put e ≡ None → (f : Fact) → sources (e ∷ es) f ≡ sources es f
    idle_step w p f =
        ap (λ (s : Option PrincipalState). times (put_facts f.of s) f + given_by (e ∷ es) (documents_once (e ∷ es)) f) (principal_same f.of p)
        ∙ ap (λ (docs : List (List ℕ)). times (put_facts f.of (principal_of es f.of)) f + given_by (e ∷ es) docs f) (once_idle w)
        ∙ ap (λ (n : ℕ). times (put_facts f.of (principal_of es f.of)) f + n) (given_idle (documents_once es) f w)

    -- a put or a drop changes what is given by it
    pub put_step : (p : Put) → as_write e ≡ None → as_put e ≡ Some p → (f : Fact)
        → sources (e ∷ es) f + times (put_facts p.of (principal_of es p.of)) f ≡ sources es f + times (put_facts p.of p.state) f
    put_step p w is f = by (same_grantee p.of f.of) refl
      where
        others : given_by (e ∷ es) (documents_once (e ∷ es)) f ≡ given_by es (documents_once es) f
        others = ap (λ (docs : List (List ℕ)). given_by (e ∷ es) docs f) (once_idle w) ∙ given_idle (documents_once es) f w

        by : (b : Bool) → same_grantee p.of f.of ≡ b → sources (e ∷ es) f + times (put_facts p.of (principal_of es p.of)) f ≡ sources es f + times (put_facts p.of p.state) f
        by true same =
            let one : p.of ≡ f.of = grantees p.of f.of same in
            let now : principal_of (e ∷ es) f.of ≡ p.state = principal_put f.of p is ∙ ap (λ (b : Bool). if b then p.state else principal_of es f.of) same in
            let here : times (put_facts f.of (principal_of (e ∷ es) f.of)) f ≡ times (put_facts p.of p.state) f =
            ap (λ (s : Option PrincipalState). times (put_facts f.of s) f) now ∙ ap (λ (g : Grantee). times (put_facts g p.state) f) (sym one) in
            let there : times (put_facts p.of (principal_of es p.of)) f ≡ times (put_facts f.of (principal_of es f.of)) f =
            ap (λ (g : Grantee). times (put_facts g (principal_of es g)) f) one in
            omega (arith, here, there, others)
        by false same =
            let now : principal_of (e ∷ es) f.of ≡ principal_of es f.of = principal_put f.of p is ∙ ap (λ (b : Bool). if b then p.state else principal_of es f.of) same in
            let here : times (put_facts f.of (principal_of (e ∷ es) f.of)) f ≡ times (put_facts f.of (principal_of es f.of)) f =
            ap (λ (s : Option PrincipalState). times (put_facts f.of s) f) now in
            omega (arith, here, others, foreign p.of (principal_of es p.of) f same, foreign p.of p.state f same)

    module _ (w : Write) (is : as_write e ≡ Some w) where
      given_other : (docs : List (List ℕ)) (f : Fact) → among docs w.doc ≡ false → given_by (e ∷ es) docs f ≡ given_by es docs f
      given_other [] f h = refl
      given_other (d ∷ ds) f h =
          ap (λ (c : Option Current). times (document_facts c) f + given_by (e ∷ es) ds f) (current_same d (apart w is d (or_left (bytes_eq d w.doc) (among ds w.doc) h)))
          ∙ ap (λ (n : ℕ). times (document_facts (current es d)) f + n) (given_other ds f (or_right (bytes_eq d w.doc) (among ds w.doc) h))

-- each is there once
abbrev pub IsOnce : List (List ℕ) → Type 0
IsOnce [] = Unit {0}
IsOnce (d ∷ ds) = (among ds d ≡ false) × IsOnce ds

once_with : (o : Option Write) (docs : List (List ℕ)) → IsOnce docs → IsOnce (with_document o docs)
once_with None docs h = h
once_with (Some w) docs h = by (among docs w.doc) refl
  where
    by : (b : Bool) → among docs w.doc ≡ b → IsOnce (if b then docs else w.doc ∷ docs)
    by true is = h
    by false is = (is, h)

pub once : (es : List Entry) → IsOnce (documents_once es)
once [] = tt
once (e ∷ es) = once_with (as_write e) (documents_once es) (once es)

module _ (law : Unwritten) (e : Entry) (es : List Entry) (w : Write) (is : as_write e ≡ Some w) (f : Fact) where
  no : as_sync e ≡ None
  no = write_alone e w is

  abbrev was : List ℕ → ℕ
  was doc = times (document_facts (current es doc)) f

  abbrev now : List ℕ → ℕ
  now doc = times (document_facts (current (e ∷ es) doc)) f

  given_changed : (docs : List (List ℕ)) → IsOnce docs → among docs w.doc ≡ true → given_by (e ∷ es) docs f + was w.doc ≡ given_by es docs f + now w.doc
  given_changed [] alone h = absurd (false≢true h)
  given_changed (d ∷ ds) alone h = by (bytes_eq d w.doc) refl (λ k. given_changed ds alone.1 k)
    where
      by : (b : Bool) → bytes_eq d w.doc ≡ b → (among ds w.doc ≡ true → given_by (e ∷ es) ds f + was w.doc ≡ given_by es ds f + now w.doc)
          → given_by (e ∷ es) (d ∷ ds) f + was w.doc ≡ given_by es (d ∷ ds) f + now w.doc
      by true same rest =
          let one : d ≡ w.doc = (bytes_decides d w.doc).0 same in
          let others : given_by (e ∷ es) ds f ≡ given_by es ds f = given_other e es law no w is ds f (subst (λ (x : List ℕ). among ds x ≡ false) one alone.0) in
          let before : was d ≡ was w.doc = ap was one in
          let after : now d ≡ now w.doc = ap now one in
          omega (arith, others, before, after)
      by false same rest =
          let here : now d ≡ was d = ap (λ (c : Option Current). times (document_facts c) f) (current_same e es law no d (apart e es w is d same)) in
          omega (arith, here, rest (or_other (bytes_eq d w.doc) (among ds w.doc) same h))

no_last : (es : List Entry) (doc : List ℕ) → among (documents_once es) doc ≡ false → last_write es doc ≡ None
no_last [] doc h = refl
no_last (e ∷ es) doc h = by (as_write e) refl h (λ k. no_last es doc k)
  where
    put_before : write_to e doc ≡ None → last_write es doc ≡ None → last_write (e ∷ es) doc ≡ None
    put_before none before = ap (λ (o : Option Write). sequenced_or o (length es + 1) (last_write es doc)) none ∙ before

    of : (w : Write) → as_write e ≡ Some w → (b : Bool) → among (documents_once es) w.doc ≡ b → among (if b then documents_once es else w.doc ∷ documents_once es) doc ≡ false
        → (among (documents_once es) doc ≡ false → last_write es doc ≡ None) → last_write (e ∷ es) doc ≡ None
    of w is true old h rest = put_before (apart e es w is doc (differs (bytes_eq doc w.doc) refl)) (rest h)
      where
        differs : (b : Bool) → bytes_eq doc w.doc ≡ b → b ≡ false
        differs true same = absurd (false≢true (sym h ∙ ap (λ (x : List ℕ). among (documents_once es) x) ((bytes_decides doc w.doc).0 same) ∙ old))
        differs false same = refl
    of w is false old h rest =
        put_before (apart e es w is doc (texts_swap doc w.doc ∙ or_left (bytes_eq w.doc doc) (among (documents_once es) doc) h)) (rest (or_right (bytes_eq w.doc doc) (among (documents_once es) doc) h))

    by : (o : Option Write) → as_write e ≡ o → among (with_document o (documents_once es)) doc ≡ false → (among (documents_once es) doc ≡ false → last_write es doc ≡ None) → last_write (e ∷ es) doc ≡ None
    by None is h rest = put_before (unwritten e es doc is) (rest h)
    by (Some w) is h rest = of w is (among (documents_once es) w.doc) refl h rest

-- a document that was not written is nothing
pub no_current : (es : List Entry) (doc : List ℕ) → among (documents_once es) doc ≡ false → current es doc ≡ None
no_current es doc h = ap (λ (o : Option Sequenced). current_after es doc o) (no_last es doc h)

-- a write changes what is given by its document
pub write_step : (law : Unwritten) (e : Entry) (es : List Entry) (w : Write) → as_write e ≡ Some w → as_put e ≡ None → (f : Fact)
    → sources (e ∷ es) f + times (document_facts (current es w.doc)) f ≡ sources es f + times (document_facts (current (e ∷ es) w.doc)) f
write_step law e es w is put f = by (among (documents_once es) w.doc) refl
  where
    puts : times (put_facts f.of (principal_of (e ∷ es) f.of)) f ≡ times (put_facts f.of (principal_of es f.of)) f
    puts = ap (λ (s : Option PrincipalState). times (put_facts f.of s) f) (principal_same e es f.of put)

    by : (b : Bool) → among (documents_once es) w.doc ≡ b → sources (e ∷ es) f + times (document_facts (current es w.doc)) f ≡ sources es f + times (document_facts (current (e ∷ es) w.doc)) f
    by b old =
        let docs : documents_once (e ∷ es) ≡ (if b then documents_once es else w.doc ∷ documents_once es) =
        ap (λ (o : Option Write). with_document o (documents_once es)) is ∙ ap (λ (x : Bool). if x then documents_once es else w.doc ∷ documents_once es) old in
        let given : given_by (e ∷ es) (documents_once (e ∷ es)) f ≡ given_by (e ∷ es) (if b then documents_once es else w.doc ∷ documents_once es) f =
        ap (λ (l : List (List ℕ)). given_by (e ∷ es) l f) docs in
        omega (arith, puts, given, cases b old)
      where
        cases : (b : Bool) → among (documents_once es) w.doc ≡ b
            → given_by (e ∷ es) (if b then documents_once es else w.doc ∷ documents_once es) f + times (document_facts (current es w.doc)) f
            ≡ given_by es (documents_once es) f + times (document_facts (current (e ∷ es) w.doc)) f
        cases true old = given_changed law e es w is f (documents_once es) (once es) old
        cases false old =
            let nothing : times (document_facts (current es w.doc)) f ≡ 0 = ap (λ (c : Option Current). times (document_facts c) f) (no_current es w.doc old) in
            omega (arith, nothing, given_other e es law (write_alone e w is) w is (documents_once es) f old)

no_facts : (facts : List Fact) → length facts ≡ 0 → facts ≡ []
no_facts [] e = refl
no_facts (f ∷ fs) e = absurd (omega (arith, e))

-- where nothing is kept under a name, and nothing is to be, all is as it was
pub still_none : (lists : Lists) (name other : List ℕ) (facts : List Fact) → length facts ≡ 0 → get_by_text lists name ≡ None → facts_in lists other ≡ (if bytes_eq name other then facts else facts_in lists other)
still_none lists name other facts none absent = go (bytes_eq name other) refl where
  go : (b : Bool) → bytes_eq name other ≡ b → facts_in lists other ≡ (if b then facts else facts_in lists other)
  go true same = ap (facts_in lists) (sym ((bytes_decides name other).0 same)) ∙ ap facts_of_list absent ∙ sym (no_facts facts none)
  go false same = refl
