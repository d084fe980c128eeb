-- States of an inbox, and what came before them.
use Rattle.std.proofs.Common.{◌≡◌, ℕ, Bool, true, false, ◌&&◌, ◌||◌, cond, eqb, List, [], ◌∷◌, Some, None, refl, sym, ap, ◌∙◌, inl, inr}
use Rattle.std.specs.Prelude.{not, max, Option}
use Rattle.std.specs.Ordering.{nat_cmp}
use Rattle.std.specs.Cmp.{nat_cmp_total, unsigned_tied}
use Rattle.std.specs.FinSet as set
use Rattle.std.specs.FinMap as map
use Rattle.std.proofs.lemmas.Bool.{eqb-true, cases_Bool}
use Rattle.blip_frame.specs.Frame.{FrameParts, has_checksum}
use Rattle.blip_frame.specs.declared.frame.Kind.{Kind}
use Rattle.blip_frame.specs.declared.frame.Kind.TheVariants as kinds
use Rattle.blip_mux.specs.Begun.{Begun}
use Rattle.blip_mux.specs.Remembered.{InboxState, Unfinished}
use Rattle.blip_mux.specs.InboxStates.{new_inbox, expecting, begun_after, held_after, so_far_at, answer_at, taken_after, taken_from, StandsFor}
use Rattle.blip_mux.specs.Joining.{Event, came, expected, is_request, is_reply, begun_or, with_frame, brought_by, answer_to, answer_in, frames_of, so_far_in, requests_in, is_awaited, held_in, Joined, followed_by, joined_after, joined}
use Rattle.blip_mux.proofs.Held.{held_came, held_acknowledged, held_expecting}

-- ---- the state says what the events before it gave

pub stands_new : StandsFor new_inbox []
stands_new = record {
  requests = refl;
  awaited = set.contains-empty nat_cmp;
  requests_begun = λ q. map.get-empty nat_cmp q;
  replies_begun = λ q. map.get-empty nat_cmp q;
  held = refl;
}

contains_removed : (e : set.FinSet nat_cmp) (k q : ℕ) → set.contains (set.remove e k) q ≡ (not (eqb q k) && set.contains e q)
contains_removed e k q = set.contains-remove nat_cmp_total e k q ∙ ap (λ (b : Bool). not b && set.contains e q) (unsigned_tied q k)

contains_inserted : (e : set.FinSet nat_cmp) (k q : ℕ) → set.contains (set.insert e k) q ≡ (eqb q k || set.contains e q)
contains_inserted e k q = set.contains-insert nat_cmp_total e k q ∙ ap (λ (b : Bool). b || set.contains e q) (unsigned_tied q k)

get_inserted : (m : Unfinished) (k q : ℕ) (b : Begun) → map.get (map.insert m k b) q ≡ cond (eqb q k) (Some b) (map.get m q)
get_inserted m k q b = map.get-insert nat_cmp_total m k b q ∙ ap (λ (t : Bool). cond t (Some b) (map.get m q)) (unsigned_tied q k)

get_removed : (m : Unfinished) (k q : ℕ) → map.get (map.remove m k) q ≡ cond (eqb q k) None (map.get m q)
get_removed m k q = map.get-remove nat_cmp_total m k q ∙ ap (λ (t : Bool). cond t None (map.get m q)) (unsigned_tied q k)

-- a frame more of the message, or the last one
by_last : (more t : Bool) (b : Begun) (o : Option Begun) (f : FrameParts) (fs : List FrameParts) → o ≡ brought_by fs → (t ≡ true → Some b ≡ brought_by (f ∷ fs))
    → cond more (cond t (Some b) o) (cond t None o) ≡ brought_by (cond t (cond more (f ∷ fs) []) fs)
by_last true true b o f fs e grown = grown refl
by_last true false b o f fs e grown = e
by_last false true b o f fs e grown = refl
by_last false false b o f fs e grown = e

pub got : (more : Bool) (m : Unfinished) (k q : ℕ) (b : Begun)
    → map.get (cond more (map.insert m k b) (map.remove m k)) q ≡ cond more (cond (eqb q k) (Some b) (map.get m q)) (cond (eqb q k) None (map.get m q))
got true m k q b = get_inserted m k q b
got false m k q b = get_removed m k q

begun_of_class : (m : Unfinished) (class : Kind → Bool) (before : List Event) (f : FrameParts) (q : ℕ)
    → ((number : ℕ) → map.get m number ≡ brought_by (frames_of class number before))
    → map.get (begun_after m f) q ≡ brought_by (cond (eqb q f.number) (cond f.more (f ∷ frames_of class q before) []) (frames_of class q before))
begun_of_class m class before f q each =
    got f.more m f.number q (with_frame (begun_or (map.get m f.number) f) f)
    ∙ by_last f.more (eqb q f.number) (with_frame (begun_or (map.get m f.number) f) f) (map.get m q) f (frames_of class q before) (each q)
    (λ t. ap (λ (n : ℕ). Some (with_frame (begun_or (map.get m n) f) f)) (sym (eqb-true q f.number t)) ∙ ap (λ (o : Option Begun). Some (with_frame (begun_or o f) f)) (each q))

-- ---- frame by frame

requests_taken : (s : InboxState) (f : FrameParts) (k : Kind) (begun replied : Unfinished) (h : ℕ) (e : set.FinSet nat_cmp) (r : ℕ) → s.requests ≡ r
    → (cond (is_request k) (record s { requests = max f.number s.requests; requests_begun = begun; held = h }) (cond (is_reply k) (record s { expected = e; replies_begun = replied; held = h }) s)).requests ≡ cond (is_request k) (max f.number r) r
requests_taken s f kinds.Msg begun replied h e r is = ap (max f.number) is
requests_taken s f kinds.Rpy begun replied h e r is = is
requests_taken s f kinds.Err begun replied h e r is = is
requests_taken s f kinds.AckMsg begun replied h e r is = is
requests_taken s f kinds.AckRpy begun replied h e r is = is

awaited_taken : (s : InboxState) (n : ℕ) (more : Bool) (k : Kind) (begun replied : Unfinished) (h : ℕ) (q : ℕ) (a : Bool) → set.contains s.expected q ≡ a
    → set.contains (cond (is_request k) (record s { requests = max n s.requests; requests_begun = begun; held = h }) (cond (is_reply k) (record s { expected = cond more s.expected (set.remove s.expected n); replies_begun = replied; held = h }) s)).expected q ≡ (not (is_reply k && not more && eqb q n) && a)
awaited_taken s n more kinds.Msg begun replied h q a is = is
awaited_taken s n true kinds.Rpy begun replied h q a is = is
awaited_taken s n false kinds.Rpy begun replied h q a is = contains_removed s.expected n q ∙ ap (λ (b : Bool). not (eqb q n) && b) is
awaited_taken s n true kinds.Err begun replied h q a is = is
awaited_taken s n false kinds.Err begun replied h q a is = contains_removed s.expected n q ∙ ap (λ (b : Bool). not (eqb q n) && b) is
awaited_taken s n more kinds.AckMsg begun replied h q a is = is
awaited_taken s n more kinds.AckRpy begun replied h q a is = is

requests_begun_taken : (s : InboxState) (n r : ℕ) (k : Kind) (begun replied : Unfinished) (h : ℕ) (e : set.FinSet nat_cmp) (q : ℕ) (t : Bool) (after before : List FrameParts)
    → map.get begun q ≡ brought_by (cond t after before) → map.get s.requests_begun q ≡ brought_by before
    → map.get (cond (is_request k) (record s { requests = r; requests_begun = begun; held = h }) (cond (is_reply k) (record s { expected = e; replies_begun = replied; held = h }) s)).requests_begun q ≡ brought_by (cond (is_request k && t) after before)
requests_begun_taken s n r kinds.Msg begun replied h e q t after before now was = now
requests_begun_taken s n r kinds.Rpy begun replied h e q t after before now was = was
requests_begun_taken s n r kinds.Err begun replied h e q t after before now was = was
requests_begun_taken s n r kinds.AckMsg begun replied h e q t after before now was = was
requests_begun_taken s n r kinds.AckRpy begun replied h e q t after before now was = was

replies_begun_taken : (s : InboxState) (n r : ℕ) (k : Kind) (begun replied : Unfinished) (h : ℕ) (e : set.FinSet nat_cmp) (q : ℕ) (t : Bool) (after before : List FrameParts)
    → map.get replied q ≡ brought_by (cond t after before) → map.get s.replies_begun q ≡ brought_by before
    → map.get (cond (is_request k) (record s { requests = r; requests_begun = begun; held = h }) (cond (is_reply k) (record s { expected = e; replies_begun = replied; held = h }) s)).replies_begun q ≡ brought_by (cond (is_reply k && t) after before)
replies_begun_taken s n r kinds.Msg begun replied h e q t after before now was = was
replies_begun_taken s n r kinds.Rpy begun replied h e q t after before now was = now
replies_begun_taken s n r kinds.Err begun replied h e q t after before now was = now
replies_begun_taken s n r kinds.AckMsg begun replied h e q t after before now was = was
replies_begun_taken s n r kinds.AckRpy begun replied h e q t after before now was = was

held_taken : (s : InboxState) (n : ℕ) (more : Bool) (k : Kind) (begun replied : Unfinished) (h : ℕ)
    → (cond (is_request k) (record s { requests = max n s.requests; requests_begun = begun; held = h }) (cond (is_reply k) (record s { expected = cond more s.expected (set.remove s.expected n); replies_begun = replied; held = h }) s)).held ≡ cond (has_checksum k) h s.held
held_taken s n more kinds.Msg begun replied h = refl
held_taken s n more kinds.Rpy begun replied h = refl
held_taken s n more kinds.Err begun replied h = refl
held_taken s n more kinds.AckMsg begun replied h = refl
held_taken s n more kinds.AckRpy begun replied h = refl

so_far_by : (b : Bool) (m n : Unfinished) (q : ℕ) (xs ys : List FrameParts) → map.get m q ≡ brought_by xs → map.get n q ≡ brought_by ys → cond b (map.get m q) (map.get n q) ≡ brought_by (cond b xs ys)
so_far_by true m n q xs ys d e = d
so_far_by false m n q xs ys d e = e

same_so_far : (s : InboxState) (before : List Event) (f : FrameParts) → StandsFor s before → so_far_at s f ≡ so_far_in before f
same_so_far s before f stands =
    so_far_by (is_request f.kind) s.requests_begun s.replies_begun f.number (frames_of is_request f.number before) (frames_of is_reply f.number before) (stands.requests_begun f.number) (stands.replies_begun f.number)

held_so : (s : InboxState) (before : List Event) (f : FrameParts) → StandsFor s before → cond (has_checksum f.kind) (held_after s.held (so_far_at s f) f) s.held ≡ held_in (came f ∷ before)
held_so s before f stands = elim (cases_Bool (has_checksum f.kind)) [
  | inl carried ↦
      ap (λ (b : Bool). cond b (held_after s.held (so_far_at s f) f) s.held) carried
      ∙ ap (λ (h : ℕ). held_after h (so_far_at s f) f) stands.held
      ∙ ap (λ (o : Option Begun). held_after (held_in before) o f) (same_so_far s before f stands)
      ∙ sym (held_came before f carried)
  | inr none ↦
      ap (λ (b : Bool). cond b (held_after s.held (so_far_at s f) f) s.held) none
      ∙ stands.held
      ∙ sym (held_acknowledged before f none)
]

pub stands_after : (s : InboxState) (before : List Event) (f : FrameParts) → StandsFor s before → StandsFor (taken_after s f) (came f ∷ before)
stands_after s before f stands = record {
  requests = requests_taken s f f.kind (begun_after s.requests_begun f) (begun_after s.replies_begun f) (held_after s.held (so_far_at s f) f) (cond f.more s.expected (set.remove s.expected f.number)) (requests_in before) stands.requests;
  awaited = λ q. awaited_taken s f.number f.more f.kind (begun_after s.requests_begun f) (begun_after s.replies_begun f) (held_after s.held (so_far_at s f) f) q (is_awaited before q) (stands.awaited q);
  requests_begun = λ q. requests_begun_taken s f.number (max f.number s.requests) f.kind (begun_after s.requests_begun f) (begun_after s.replies_begun f) (held_after s.held (so_far_at s f) f) (cond f.more s.expected (set.remove s.expected f.number)) q (eqb q f.number)
      (cond f.more (f ∷ frames_of is_request q before) []) (frames_of is_request q before) (begun_of_class s.requests_begun is_request before f q stands.requests_begun) (stands.requests_begun q);
  replies_begun = λ q. replies_begun_taken s f.number (max f.number s.requests) f.kind (begun_after s.requests_begun f) (begun_after s.replies_begun f) (held_after s.held (so_far_at s f) f) (cond f.more s.expected (set.remove s.expected f.number)) q (eqb q f.number)
      (cond f.more (f ∷ frames_of is_reply q before) []) (frames_of is_reply q before) (begun_of_class s.replies_begun is_reply before f q stands.replies_begun) (stands.replies_begun q);
  held = held_taken s f.number f.more f.kind (begun_after s.requests_begun f) (begun_after s.replies_begun f) (held_after s.held (so_far_at s f) f) ∙ held_so s before f stands;
}

pub stands_expecting : (s : InboxState) (before : List Event) (n : ℕ) → StandsFor s before → StandsFor (expecting s n) (expected n ∷ before)
stands_expecting s before n stands = record {
  requests = stands.requests;
  awaited = λ q. contains_inserted s.expected n q ∙ ap (λ (b : Bool). eqb q n || b) (stands.awaited q);
  requests_begun = stands.requests_begun;
  replies_begun = stands.replies_begun;
  held = stands.held ∙ sym (held_expecting before n);
}

pub same_answer : (s : InboxState) (before : List Event) (f : FrameParts) → StandsFor s before → answer_at s f ≡ answer_in before f
same_answer s before f stands =
    ap (λ (r : ℕ). answer_to r (set.contains s.expected f.number) s.held (so_far_at s f) f) stands.requests
    ∙ ap (λ (b : Bool). answer_to (requests_in before) b s.held (so_far_at s f) f) (stands.awaited f.number)
    ∙ ap (λ (h : ℕ). answer_to (requests_in before) (is_awaited before f.number) h (so_far_at s f) f) stands.held
    ∙ ap (λ (o : Option Begun). answer_to (requests_in before) (is_awaited before f.number) (held_in before) o f) (same_so_far s before f stands)

taken_joined : (s : InboxState) (before : List Event) → StandsFor s before → (events : List Event) → taken_from s events ≡ joined_after before events
taken_joined s before stands [] = refl
taken_joined s before stands (came f ∷ events) =
    ap (λ x. followed_by x (taken_from (taken_after s f) events)) (same_answer s before f stands)
    ∙ ap (λ (j : Joined). followed_by (answer_in before f) j) (taken_joined (taken_after s f) (came f ∷ before) (stands_after s before f stands) events)
taken_joined s before stands (expected n ∷ events) = taken_joined (expecting s n) (expected n ∷ before) (stands_expecting s before n stands) events

pub new_joined : (events : List Event) → taken_from new_inbox events ≡ joined events
new_joined events = taken_joined new_inbox [] stands_new events
