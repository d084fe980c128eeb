-- what is kept once a source gives other facts
use Rattle.std.proofs.Common.{◌≡◌, ◌≤◌, ◌+◌, ◌-◌, ℕ, refl, sym, ◌∙◌, ap, subst, arith, Bool, true, false, if◌then◌else◌, nat_lt, List, [], ◌∷◌, length, Option, Some, None, String}
use Rattle.std.specs.BTreeMap.{get_by_text, is_at}
use Rattle.std.specs.Map.{lookup}
use Rattle.std.specs.Prelude.{is_some, string_bytes}
use Rattle.std.specs.Ordering.{nat_cmp}
use Rattle.std.specs.Cmp.Lexicographic.{slice_cmp, bytes_decides}
use Rattle.std.specs.Global.{Global}
use Rattle.std.specs.Str.{bytes_eq}
use Rattle.sg_names.specs.declared.grants.Grantee.{Grantee}
use Rattle.sg_names.specs.declared.grants.Grantee.TheVariants.{User, Role}
use Rattle.sg_history.specs.declared.entries.Entry.{Entry}
use Rattle.sg_history.specs.declared.entries.Write.{Write}
use Rattle.sg_history.specs.History.{as_sync, as_write}
use Rattle.sg_history.specs.Current.{current}
use Rattle.sg_history.specs.Principals.{PrincipalState, Put, as_put, same_grantee}
use Rattle.grant_history.specs.declared.facts.Fact.{Fact}
use Rattle.grant_history.specs.declared.store.Store.{Store}
use Rattle.grant_history.specs.declared.ledger.Ledger.{Ledger}
use Rattle.grant_history.specs.declared.ledger.SourceFacts.{SourceFacts}
use Rattle.grant_tracks.specs.Dated.{Dated}
use Rattle.grant_history.specs.Facts.{times, put_facts, document_facts}
use Rattle.grant_history.specs.Store.{count_to, held_to, count_at, has_at, IsStore}
use Rattle.grant_history.specs.Sources.{principal_of, sources}
use Rattle.grant_history.specs.Ledger.{Source, document, user, role, holder, same_source, given, Lists, facts_of_list, facts_in, facts_from, GiveSame, IsLedger, IsStep, Took}
use Rattle.grant_history.specs.inner.Changes.{DocumentFacts, all_times, given_after, given_before, given_at, AreChanges}
use Rattle.grant_history.proofs.Summing.{after_same, before_same}
use Rattle.grant_tracks.proofs.HeldBy.{later_all, settled_holders}
use Rattle.grant_history.proofs.Same.{grantees}
use Rattle.grant_tracks.proofs.Same.{text_itself, texts_swap}
use Rattle.grant_history.proofs.Steps.{Unwritten, write_alone, current_same, unwritten, principal_same, principal_put, idle_step, put_step, write_step, apart}

-- a place made for a name changes nothing
pub placed_empty : (old new : Lists) (name : List ℕ) (v : SourceFacts) → v.facts.items ≡ [] → get_by_text old name ≡ None
    → ((other : List ℕ) → get_by_text new other ≡ (if bytes_eq name other then Some v else get_by_text old other)) → (other : List ℕ) → facts_in new other ≡ facts_in old other
placed_empty old new name v empty none sets other = ap facts_of_list (sets other) ∙ by (bytes_eq name other) refl
  where
    by : (b : Bool) → bytes_eq name other ≡ b → facts_of_list (if b then Some v else get_by_text old other) ≡ facts_in old other
    by true same = empty ∙ ap facts_of_list (sym none) ∙ ap (λ (n : List ℕ). facts_in old n) ((bytes_decides name other).0 same)
    by false same = refl

pub placed_there : (b : Bool) (v : SourceFacts) (o : Option SourceFacts) → is_some o ≡ true → is_some (if b then Some v else o) ≡ true
placed_there true v o h = refl
placed_there false v o h = h

pub swapped_there : (b : Bool) (v : SourceFacts) (o : Option SourceFacts) → (b ≡ true → is_some o ≡ true) → is_some (if b then Some v else o) ≡ is_some o
swapped_there true v o h = sym (h refl)
swapped_there false v o h = refl

pub swapped : (b : Bool) (v : SourceFacts) (o : Option SourceFacts) → facts_of_list (if b then Some v else o) ≡ (if b then v.facts.items else facts_of_list o)
swapped true v o = refl
swapped false v o = refl

-- what is found of a source of which nothing was kept gives nothing
pub begun_empty : (old made : Lists) (name : List ℕ) (list : SourceFacts) → get_by_text old name ≡ None → ((other : List ℕ) → facts_in made other ≡ facts_in old other) → get_by_text made name ≡ Some list → list.facts.items ≡ []
begun_empty old made name list none same there = sym (ap facts_of_list there) ∙ same name ∙ ap facts_of_list none

-- a source with what it gave changes nothing
pub as_it_was : (lists : Lists) (name other : List ℕ) (facts : List Fact) → facts ≡ facts_in lists name → (if bytes_eq name other then facts else facts_in lists other) ≡ facts_in lists other
as_it_was lists name other facts same = by (bytes_eq name other) refl
  where
    by : (b : Bool) → bytes_eq name other ≡ b → (if b then facts else facts_in lists other) ≡ facts_in lists other
    by true at = same ∙ ap (λ (n : List ℕ). facts_in lists n) ((bytes_decides name other).0 at)
    by false at = refl

pub settled : (store : Store) (n : ℕ) (f : Fact) → IsStore store n → has_at store f n ≡ nat_lt 0 (count_at store f)
settled store n f is = by f.of
  where
    by : (of : Grantee) → held_to store of f.what n ≡ nat_lt 0 (count_to store of f.what)
    by (User name) = settled_holders store.users n name f.what is.users
    by (Role name) = settled_holders store.roles n name f.what is.roles

pub later_store : (store : Store) (n m : ℕ) → n ≤ m → IsStore store n → IsStore store m
later_store store n m le is = record { users = later_all store.users n m le is.users; roles = later_all store.roles n m le is.roles }

module _ (old new : Ledger) (at : ℕ) where
  pub took : (source : Source) (facts : List Fact)
      → Dated count_at has_at IsStore old.store new.store at (λ f. count_at old.store f + times facts f - times (facts_from old source) f)
      → ((s : Source) → facts_from new s ≡ (if same_source source s then facts else facts_from old s))
      → (e : Entry) (es : List Entry) → IsStep old at source facts e es → Took new at e es
  took source facts d lists e es step =
      let count : (f : Fact) → count_at new.store f ≡ sources (e ∷ es) f = λ f.
      let gave : times (facts_from old source) f ≡ times (given es source) f = ap (λ (l : List Fact). times l f) (step.is_kept.lists source) in
      omega (arith, d.counts f, step.is_kept.counts f, step.sums f, gave) in
      let up : IsStore new.store at = d.up_to (length es + 1) (omega (arith, step.place)) step.is_kept.up_to in
      record {
        is_kept = record {
          lists = λ s.
              lists s
              ∙ ap (λ (l : List Fact). if same_source source s then facts else l) (step.is_kept.lists s)
              ∙ sym (step.others s);
          counts = count;
          up_to = later_store new.store at (length (e ∷ es) + 1) (omega (arith, step.place)) up;
        };
        now = λ f. settled new.store at f up ∙ ap (λ (n : ℕ). nat_lt 0 n) (count f);
      }

  pub kept_on : Dated count_at has_at IsStore old.store new.store at (count_at old.store) → ((s : Source) → facts_from new s ≡ facts_from old s) → (es : List Entry) → at ≡ length es + 1 → IsLedger old es → IsLedger new es
  kept_on d lists es place is = record {
    lists = λ s. lists s ∙ is.lists s;
    counts = λ f. d.counts f ∙ is.counts f;
    up_to = subst (λ (n : ℕ). IsStore new.store n) place (d.up_to (length es + 1) (omega (arith, place)) is.up_to);
  }

-- which list a source's is
module _ (old : Ledger) (store : Store) (lists : Lists) (name : List ℕ) (facts : List Fact) where
  pub of_documents : ((other : List ℕ) → facts_in lists other ≡ (if bytes_eq name other then facts else facts_in old.documents other)) → (s : Source)
      → facts_from (record { store = store; documents = lists; users = old.users; roles = old.roles }) s ≡ (if same_source (document name) s then facts else facts_from old s)
  of_documents h (document d) = h d
  of_documents h (user n) = refl
  of_documents h (role n) = refl

  pub of_users : ((other : List ℕ) → facts_in lists other ≡ (if bytes_eq name other then facts else facts_in old.users other)) → (s : Source)
      → facts_from (record { store = store; documents = old.documents; users = lists; roles = old.roles }) s ≡ (if same_source (user name) s then facts else facts_from old s)
  of_users h (document d) = refl
  of_users h (user n) = h n
  of_users h (role n) = refl

  pub of_roles : ((other : List ℕ) → facts_in lists other ≡ (if bytes_eq name other then facts else facts_in old.roles other)) → (s : Source)
      → facts_from (record { store = store; documents = old.documents; users = old.users; roles = lists }) s ≡ (if same_source (role name) s then facts else facts_from old s)
  of_roles h (document d) = refl
  of_roles h (user n) = refl
  of_roles h (role n) = h n

  pub same_documents : ((other : List ℕ) → facts_in lists other ≡ facts_in old.documents other) → (s : Source) → facts_from (record { store = store; documents = lists; users = old.users; roles = old.roles }) s ≡ facts_from old s
  same_documents h (document d) = h d
  same_documents h (user n) = refl
  same_documents h (role n) = refl

  pub same_users : ((other : List ℕ) → facts_in lists other ≡ facts_in old.users other) → (s : Source) → facts_from (record { store = store; documents = old.documents; users = lists; roles = old.roles }) s ≡ facts_from old s
  same_users h (document d) = refl
  same_users h (user n) = h n
  same_users h (role n) = refl

  pub same_roles : ((other : List ℕ) → facts_in lists other ≡ facts_in old.roles other) → (s : Source) → facts_from (record { store = store; documents = old.documents; users = old.users; roles = lists }) s ≡ facts_from old s
  same_roles h (document d) = refl
  same_roles h (user n) = refl
  same_roles h (role n) = h n

-- what a replacement asks of a step
pub asked_up_to : (kept : Ledger) (at : ℕ) (source : Source) (facts : List Fact) (e : Entry) (es : List Entry) → IsStep kept at source facts e es → IsStore kept.store at
asked_up_to kept at source facts e es step = subst (λ (n : ℕ). IsStore kept.store n) (sym step.place) step.is_kept.up_to

pub asked_given : (kept : Ledger) (at : ℕ) (source : Source) (facts : List Fact) (e : Entry) (es : List Entry) → IsStep kept at source facts e es → (f : Fact) → times (facts_from kept source) f ≤ count_at kept.store f + times facts f
asked_given kept at source facts e es step f =
    let gave : times (facts_from kept source) f ≡ times (given es source) f = ap (λ (l : List Fact). times l f) (step.is_kept.lists source) in
    omega (arith, step.is_kept.counts f, step.sums f, gave)

empty_list : (lists : Lists) (name : List ℕ) → lists.entries ≡ [] → facts_in lists name ≡ []
empty_list lists name empty = ap (λ (es : List (String Global × SourceFacts)). facts_of_list (lookup (is_at (λ k. slice_cmp nat_cmp name (string_bytes k))) es)) empty

nothing_given : (of : Grantee) → principal_of [] of ≡ None
nothing_given (User name) = refl
nothing_given (Role name) = refl

pub kept_nothing : (kept : Ledger) → kept.documents.entries ≡ [] → kept.users.entries ≡ [] → kept.roles.entries ≡ [] → ((f : Fact) → count_at kept.store f ≡ 0) → ((n : ℕ) → IsStore kept.store n) → IsLedger kept []
kept_nothing kept documents users roles counts up_to = record {
  lists = by;
  counts = λ f.
      let none : times (put_facts f.of (principal_of [] f.of)) f ≡ 0 = ap (λ (s : Option PrincipalState). times (put_facts f.of s) f) (nothing_given f.of) in
      omega (arith, counts f, none);
  up_to = up_to 1;
}
  where
    by : (s : Source) → facts_from kept s ≡ given [] s
    by (document d) = empty_list kept.documents d documents
    by (user n) = empty_list kept.users n users
    by (role n) = empty_list kept.roles n roles

module _ (law : Unwritten) (kept : Ledger) (e : Entry) (es : List Entry) (at : ℕ) (place : at ≡ length es + 1) (is_kept : IsLedger kept es) where
  pub put_is_step : (p : Put) → as_sync e ≡ None → as_write e ≡ None → as_put e ≡ Some p → IsStep kept at (holder p.of) (put_facts p.of p.state) e es
  put_is_step p unsynced written put = record {
    place = place;
    is_kept = is_kept;
    others = others p.of refl;
    sums = λ f. sums f p.of refl ∙ put_step e es law unsynced p written put f;
  }
    where
      stands : (of : Grantee) → principal_of (e ∷ es) of ≡ (if same_grantee p.of of then p.state else principal_of es of)
      stands of = principal_put e es of p put

      documents : (d : List ℕ) → document_facts (current (e ∷ es) d) ≡ document_facts (current es d)
      documents d = ap document_facts (current_same e es law unsynced d (unwritten e es d written))

      chosen : (b : Bool) (of : Grantee) (s : Option PrincipalState) → put_facts of (if b then p.state else s) ≡ (if b then put_facts of p.state else put_facts of s)
      chosen true of s = refl
      chosen false of s = refl

      here : (of other : Grantee) (b : Bool) → same_grantee of other ≡ b → (if b then put_facts other p.state else put_facts other (principal_of es other)) ≡ (if b then put_facts of p.state else put_facts other (principal_of es other))
      here of other true same = ap (λ (g : Grantee). put_facts g p.state) (sym (grantees of other same))
      here of other false same = refl

      holders : (of other : Grantee) → p.of ≡ of → put_facts other (principal_of (e ∷ es) other) ≡ (if same_grantee of other then put_facts of p.state else put_facts other (principal_of es other))
      holders of other is =
          ap (λ (s : Option PrincipalState). put_facts other s) (stands other ∙ ap (λ (g : Grantee). if same_grantee g other then p.state else principal_of es other) is)
          ∙ chosen (same_grantee of other) other (principal_of es other)
          ∙ here of other (same_grantee of other) refl

      others : (of : Grantee) → p.of ≡ of → (s : Source) → given (e ∷ es) s ≡ (if same_source (holder p.of) s then put_facts p.of p.state else given es s)
      others (User n) is (document d) = documents d ∙ ap (λ (g : Grantee). if same_source (holder g) (document d) then put_facts g p.state else given es (document d)) (sym is)
      others (User n) is (user m) = holders (User n) (User m) is ∙ ap (λ (g : Grantee). if same_source (holder g) (user m) then put_facts g p.state else given es (user m)) (sym is)
      others (User n) is (role m) = holders (User n) (Role m) is ∙ ap (λ (g : Grantee). if same_source (holder g) (role m) then put_facts g p.state else given es (role m)) (sym is)
      others (Role n) is (document d) = documents d ∙ ap (λ (g : Grantee). if same_source (holder g) (document d) then put_facts g p.state else given es (document d)) (sym is)
      others (Role n) is (user m) = holders (Role n) (User m) is ∙ ap (λ (g : Grantee). if same_source (holder g) (user m) then put_facts g p.state else given es (user m)) (sym is)
      others (Role n) is (role m) = holders (Role n) (Role m) is ∙ ap (λ (g : Grantee). if same_source (holder g) (role m) then put_facts g p.state else given es (role m)) (sym is)

      sums : (f : Fact) (of : Grantee) → p.of ≡ of → sources (e ∷ es) f + times (given es (holder p.of)) f ≡ sources (e ∷ es) f + times (put_facts p.of (principal_of es p.of)) f
      sums f (User n) is = ap (λ (g : Grantee). sources (e ∷ es) f + times (given es (holder g)) f) is ∙ ap (λ (g : Grantee). sources (e ∷ es) f + times (put_facts g (principal_of es g)) f) (sym is)
      sums f (Role n) is = ap (λ (g : Grantee). sources (e ∷ es) f + times (given es (holder g)) f) is ∙ ap (λ (g : Grantee). sources (e ∷ es) f + times (put_facts g (principal_of es g)) f) (sym is)

  pub write_is_step : (w : Write) → as_write e ≡ Some w → as_put e ≡ None → IsStep kept at (document w.doc) (document_facts (current (e ∷ es) w.doc)) e es
  write_is_step w is put = record {
    place = place;
    is_kept = is_kept;
    others = others;
    sums = λ f. write_step law e es w is put f;
  }
    where
      documents : (d : List ℕ) (b : Bool) → bytes_eq w.doc d ≡ b → document_facts (current (e ∷ es) d) ≡ (if b then document_facts (current (e ∷ es) w.doc) else document_facts (current es d))
      documents d true same = ap (λ (x : List ℕ). document_facts (current (e ∷ es) x)) (sym ((bytes_decides w.doc d).0 same))
      documents d false same = ap document_facts (current_same e es law (write_alone e w is) d (apart e es w is d (texts_swap d w.doc ∙ same)))

      others : (s : Source) → given (e ∷ es) s ≡ (if same_source (document w.doc) s then document_facts (current (e ∷ es) w.doc) else given es s)
      others (document d) = documents d (bytes_eq w.doc d) refl
      others (user n) = ap (λ (s : Option PrincipalState). put_facts (User n) s) (principal_same e es (User n) put)
      others (role n) = ap (λ (s : Option PrincipalState). put_facts (Role n) s) (principal_same e es (Role n) put)

  -- an entry that changes nothing
  pub idle_took : as_sync e ≡ None → as_write e ≡ None → as_put e ≡ None → Took kept at e es
  idle_took unsynced written put =
      let up : IsStore kept.store at = subst (λ (n : ℕ). IsStore kept.store n) (sym place) is_kept.up_to in
      let counts : (f : Fact) → count_at kept.store f ≡ sources (e ∷ es) f = λ f. is_kept.counts f ∙ sym (idle_step e es law unsynced written put f) in
      record {
        is_kept = record {
          lists = λ s. is_kept.lists s ∙ sym (same s);
          counts = counts;
          up_to = later_store kept.store at (length (e ∷ es) + 1) (omega (arith, place)) up;
        };
        now = λ f. settled kept.store at f up ∙ ap (λ (n : ℕ). nat_lt 0 n) (counts f);
      }
    where
      same : (s : Source) → given (e ∷ es) s ≡ given es s
      same (document d) = ap document_facts (current_same e es law unsynced d (unwritten e es d written))
      same (user n) = ap (λ (s : Option PrincipalState). put_facts (User n) s) (principal_same e es (User n) put)
      same (role n) = ap (λ (s : Option PrincipalState). put_facts (Role n) s) (principal_same e es (Role n) put)

-- what is kept once documents give other facts
module _ (old : Ledger) (at : ℕ) (changes : List DocumentFacts) (e : Entry) (es : List Entry) (are : AreChanges old at changes e es) where
  gave : (d : List ℕ) → facts_in old.documents d ≡ given_at es d
  gave d = are.is_kept.lists (document d)

  pub each_up_to : IsStore old.store at
  each_up_to = subst (λ (n : ℕ). IsStore old.store n) (sym are.place) are.is_kept.up_to

  pub each_given : (f : Fact) → all_times (given_before (facts_in old.documents) changes) f ≤ count_at old.store f + all_times changes f
  each_given f =
      omega (arith, before_same (facts_in old.documents) (given_at es) gave changes f, are.sums f, are.is_kept.counts f)

  pub took_each : (store : Store) (lists : Lists) → Dated count_at has_at IsStore old.store store at (λ f. count_at old.store f + all_times changes f - all_times (given_before (facts_in old.documents) changes) f)
      → ((d : List ℕ) → facts_in lists d ≡ given_after (facts_in old.documents) changes d)
      → Took (record { store = store; documents = lists; users = old.users; roles = old.roles }) at e es
  took_each store lists d documents =
      let count : (f : Fact) → count_at store f ≡ sources (e ∷ es) f = λ f.
      omega (arith, d.counts f, before_same (facts_in old.documents) (given_at es) gave changes f, are.sums f, are.is_kept.counts f) in
      let up : IsStore store at = d.up_to (length es + 1) (omega (arith, are.place)) are.is_kept.up_to in
      record {
        is_kept = record {
          lists = by;
          counts = count;
          up_to = later_store store at (length (e ∷ es) + 1) (omega (arith, are.place)) up;
        };
        now = λ f. settled store at f up ∙ ap (λ (n : ℕ). nat_lt 0 n) (count f);
      }
    where
      by : (s : Source) → facts_from (record { store = store; documents = lists; users = old.users; roles = old.roles }) s ≡ given (e ∷ es) s
      by (document x) = documents x ∙ after_same (facts_in old.documents) (given_at es) gave changes x ∙ sym (are.documents x)
      by (user n) = are.is_kept.lists (user n) ∙ sym (ap (λ (s : Option PrincipalState). put_facts (User n) s) (are.users n))
      by (role n) = are.is_kept.lists (role n) ∙ sym (ap (λ (s : Option PrincipalState). put_facts (Role n) s) (are.roles n))

pub each_kept_on : (old : Ledger) (at : ℕ) (store : Store) (lists : Lists) → Dated count_at has_at IsStore old.store store at (count_at old.store) → ((d : List ℕ) → facts_in lists d ≡ facts_in old.documents d)
    → (es : List Entry) → at ≡ length es + 1 → IsLedger old es → IsLedger (record { store = store; documents = lists; users = old.users; roles = old.roles }) es
each_kept_on old at store lists d documents es place is =
    kept_on old (record { store = store; documents = lists; users = old.users; roles = old.roles }) at d same es place is
  where
    same : (s : Source) → facts_from (record { store = store; documents = lists; users = old.users; roles = old.roles }) s ≡ facts_from old s
    same (document x) = documents x
    same (user n) = refl
    same (role n) = refl

-- a source that gives the same gives what is kept of it
source_itself : (s : Source) → same_source s s ≡ true
source_itself (document d) = text_itself d
source_itself (user n) = text_itself n
source_itself (role n) = text_itself n

pub same_step : (kept : Ledger) (at : ℕ) (source : Source) (facts : List Fact) (e : Entry) (es : List Entry) → IsStep kept at source facts e es → GiveSame (e ∷ es) es → facts_from kept source ≡ facts
same_step kept at source facts e es is same =
    is.is_kept.lists source
    ∙ sym (same source)
    ∙ is.others source
    ∙ ap (λ (b : Bool). if b then facts else given es source) (source_itself source)
