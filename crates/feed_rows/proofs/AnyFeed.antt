-- The laws of a feed, for any rows of documents of which a few facts hold.
use Rattle.std.proofs.Common.{◌≡◌, ℕ, ◌<◌, ◌≤◌, refl, sym, ◌∙◌, ap, inl, inr, ◌⊎◌, ⊎_elim, arith, IsTrue, Bool, true, false, List, [], ◌++◌, length, filter, Option, Some, None, ◌&&◌, ◌||◌, not, nat_eq}
use Rattle.std.proofs.lemmas.Bool.{false≢true, and_parts, and_from, and_right, or_left, ne_eqb}
use Rattle.std.proofs.lemmas.Option.{same_Some}
use Rattle.std.specs.List.{filter_map}
use Rattle.std.specs.Ordering.{is_lt}
use Rattle.std.specs.declared.cmp.Ordering.{Ordering}
use Rattle.std.specs.declared.cmp.Ordering.TheVariants.{Less, Equal, Greater}
use Rattle.sg_names.specs.declared.key.Key.{Key}
use Rattle.sg_names.specs.Key.{key_cmp}
use Rattle.sg_history.specs.declared.entries.Entry.{Entry}
use Rattle.sg_history.specs.declared.row.Row.{Row}
use Rattle.sg_history.specs.declared.row.Options.{Options}
use Rattle.sg_history.specs.History.{documents}
use Rattle.sg_history.specs.Feed.{keeps, in_key_order, is_start, is_gone, is_deleted}
use Rattle.sg_history.specs.Device.{Held, held_after, plain}
use Rattle.feed_rows.specs.Laws.{HasRow, IsBelow}
use Rattle.feed_rows.proofs.Keys.{same_from_tie, below_from_under, below_plain, below_or_not}
use Rattle.feed_rows.proofs.RowLists.{Has, filter_has, filter_had, filter_map_has, filter_map_had, ordered_had, ordered_has, no_rows}

-- what the laws need of the rows of documents, and of what is shown of them, at the end of entries
pub record RowFacts (rowed : List Entry → List ℕ → Option Row) (shown : List Entry → List ℕ → Option Held) : Type 0 where
  -- a row names its document
  pub own : (es : List Entry) (doc : List ℕ) (r : Row) → rowed es doc ≡ Some r → r.doc ≡ doc
  -- its key is of places of the entries
  pub positive : (es : List Entry) (doc : List ℕ) (r : Row) → rowed es doc ≡ Some r → 1 ≤ r.key.seq
  pub seq_bound : (es : List Entry) (doc : List ℕ) (r : Row) → rowed es doc ≡ Some r → r.key.seq ≤ r.key.by
  pub by_bound : (es : List Entry) (doc : List ℕ) (r : Row) → rowed es doc ≡ Some r → r.key.by ≤ length es
  -- rows of two documents have two keys
  pub apart : (es : List Entry) (a b : List ℕ) (r s : Row) → rowed es a ≡ Some r → rowed es b ≡ Some s → r.key ≡ s.key → a ≡ b
  -- a row says what is shown, and without one nothing is
  pub shows : (es : List Entry) (doc : List ℕ) (r : Row) → rowed es doc ≡ Some r → shown es doc ≡ held_after r
  pub hidden : (es : List Entry) (doc : List ℕ) → rowed es doc ≡ None → shown es doc ≡ None
  -- a document with a row was written
  pub written : (es : List Entry) (doc : List ℕ) (r : Row) → rowed es doc ≡ Some r → Has (documents es) doc
  -- after more entries all is as it was, or there is a row of a place past those before
  pub later : (more es : List Entry) (doc : List ℕ) → ((rowed (more ++ es) doc ≡ rowed es doc) × (shown (more ++ es) doc ≡ shown es doc)) ⊎ ((r : Row) × (rowed (more ++ es) doc ≡ Some r) × (length es < r.key.by))

-- the feed of these documents
abbrev pub feed_of : (List ℕ → Option Row) → List (List ℕ) → Key → Options → List Row
feed_of row docs since options = in_key_order (filter (λ r. keeps options since r) (filter_map row docs))

-- a row of some document that is asked for
abbrev pub Asked : (List ℕ → Option Row) → Key → Options → Row → Type 0
Asked row since options r = (doc : List ℕ) × (row doc ≡ Some r) × IsTrue (keeps options since r)

-- what is asked for, part by part
is_less : (o : Ordering) → is_lt o ≡ true → o ≡ Less
is_less Less h = refl
is_less Equal h = absurd (false≢true h)
is_less Greater h = absurd (false≢true h)

abbrev pub from_start : Options → Key → Row → Bool
from_start options since r = not (is_start since) || (not (is_gone r.bits) && not (options.active_only && is_deleted r.bits))

abbrev pub revoked : Options → Row → Bool
revoked options r = options.revocations || not (nat_eq r.bits 2)

pub kept_above : (options : Options) (since : Key) (r : Row) → keeps options since r ≡ true → IsBelow since r.key
kept_above options since r h =
    let parts = and_parts (is_lt (key_cmp since r.key) && from_start options since r) (revoked options r) h in
    is_less (key_cmp since r.key) (and_parts (is_lt (key_cmp since r.key)) (from_start options since r) parts.0).0

kept_revoked : (options : Options) (since : Key) (r : Row) → keeps options since r ≡ true → revoked options r ≡ true
kept_revoked options since r h = (and_parts (is_lt (key_cmp since r.key) && from_start options since r) (revoked options r) h).1

kept_from : (options : Options) (since : Key) (r : Row) → IsBelow since r.key → is_start since ≡ false → revoked options r ≡ true → keeps options since r ≡ true
kept_from options since r h s k =
    let below : is_lt (key_cmp since r.key) ≡ true = ap is_lt h in
    let later : from_start options since r ≡ true = or_left (not (is_start since)) _ (ap not s) in
    and_from (is_lt (key_cmp since r.key) && from_start options since r) (revoked options r) (and_from (is_lt (key_cmp since r.key)) (from_start options since r) below later) k

pub not_start : (k : Key) → 1 ≤ k.seq → is_start k ≡ false
not_start k h = and_right (nat_eq k.by 0) (nat_eq k.seq 0) (ne_eqb k.seq 0 (λ e. omega arith))

module _ (rowed : List Entry → List ℕ → Option Row) (shown : List Entry → List ℕ → Option Held) (facts : RowFacts rowed shown) where
  -- two rows of one key are one
  same_row : (es : List Entry) (a b : List ℕ) (r s : Row) → rowed es a ≡ Some r → rowed es b ≡ Some s → key_cmp r.key s.key ≡ Equal → r ≡ s
  same_row es a b r s h k e =
      let d = facts.apart es a b r s h k (same_from_tie r.key s.key e) in
      same_Some r s (sym h ∙ ap (rowed es) d ∙ k)

  pub feed_had : (es : List Entry) (since : Key) (options : Options) (r : Row) → HasRow (feed_of (rowed es) (documents es) since options) r → Asked (rowed es) since options r
  feed_had es since options r h =
      let kept = filter_had (λ x. keeps options since x) (filter_map (rowed es) (documents es)) r (ordered_had _ r h) in
      let of = filter_map_had (rowed es) (documents es) r kept.0 in
      (of.0, of.1, kept.1)

  pub feed_has : (es : List Entry) (since : Key) (options : Options) (r : Row) → Asked (rowed es) since options r → HasRow (feed_of (rowed es) (documents es) since options) r
  feed_has es since options r h =
      let p : Row → Bool = λ x. keeps options since x in
      let rows : List Row = filter_map (rowed es) (documents es) in
      ordered_has (filter p rows) r
      (λ a b x y e. let u = filter_map_had (rowed es) (documents es) a (filter_had p rows a x).0 in let w = filter_map_had (rowed es) (documents es) b (filter_had p rows b y).0 in same_row es u.0 w.0 a b u.1 w.1 e)
      (filter_has p rows r (filter_map_has (rowed es) (documents es) h.0 r (facts.written es h.0 r h.1) h.1) h.2)

  pub one_each : (es : List Entry) (since : Key) (options : Options) (r s : Row) → HasRow (feed_of (rowed es) (documents es) since options) r → HasRow (feed_of (rowed es) (documents es) since options) s → r.doc ≡ s.doc → r ≡ s
  one_each es since options r s h k e =
      let x = feed_had es since options r h in
      let y = feed_had es since options s k in
      let d : x.0 ≡ y.0 = sym (facts.own es x.0 r x.1) ∙ e ∙ facts.own es y.0 s y.1 in
      same_Some r s (sym x.1 ∙ ap (rowed es) d ∙ y.1)

  -- a since key at or past the last key, or the front, gives no row
  pub past_the_last : (es : List Entry) (since : Key) (options : Options) → ((doc : List ℕ) (r : Row) → rowed es doc ≡ Some r → IsBelow since r.key → ⊥) → feed_of (rowed es) (documents es) since options ≡ []
  past_the_last es since options past =
      no_rows _ (λ r h. let x = feed_had es since options r h in past x.0 r x.1 (kept_above options since r x.2))

  pub past_the_front : (es : List Entry) (since : Key) (options : Options) → (IsBelow since (plain (length es)) → ⊥) → feed_of (rowed es) (documents es) since options ≡ []
  past_the_front es since options past =
      past_the_last es since options (λ doc r h b. past (below_plain since r.key (length es) b (facts.seq_bound es doc r h) (facts.by_bound es doc r h)))

  -- what a row that was sent leaves for later
  pub resumed : (more es : List Entry) (since : Key) (options : Options) (sent r : Row) → HasRow (feed_of (rowed es) (documents es) since options) sent → HasRow (feed_of (rowed (more ++ es)) (documents (more ++ es)) since options) r → (HasRow (feed_of (rowed es) (documents es) since options) r × (IsBelow sent.key r.key → ⊥)) ⊎ (IsBelow sent.key r.key × HasRow (feed_of (rowed (more ++ es)) (documents (more ++ es)) sent.key options) r)
  resumed more es since options sent r h k =
      let was = feed_had es since options sent h in
      let is = feed_had (more ++ es) since options r k in
      ⊎_elim
      (λ b. inr (b, feed_has (more ++ es) sent.key options r (is.0, is.1, kept_from options sent.key r b (not_start sent.key (facts.positive es was.0 sent was.1)) (kept_revoked options since r is.2))))
      (λ n. inl (feed_has es since options r (is.0, same n (facts.by_bound es was.0 sent was.1) (facts.later more es is.0) is.1, is.2), n))
      (below_or_not sent.key r.key)
    where
      same : {doc : List ℕ} → (IsBelow sent.key r.key → ⊥) → sent.key.by ≤ length es → ((rowed (more ++ es) doc ≡ rowed es doc) × (shown (more ++ es) doc ≡ shown es doc)) ⊎ ((s : Row) × (rowed (more ++ es) doc ≡ Some s) × (length es < s.key.by)) → rowed (more ++ es) doc ≡ Some r → rowed es doc ≡ Some r
      same n b (inl e) h = sym e.0 ∙ h
      same n b (inr s) h =
          let e : s.0 ≡ r = same_Some s.0 r (sym s.1 ∙ h) in
          let f = ap (λ (x : Row). x.key.by) e in
          absurd (n (below_from_under sent.key r.key (inl (omega (arith, f, s.2, b)))))

  -- no row past a key that was sent is lost
  pub none_lost : (more es : List Entry) (since : Key) (options : Options) (sent r : Row) (doc : List ℕ) → HasRow (feed_of (rowed es) (documents es) since options) sent → rowed (more ++ es) doc ≡ Some r → IsBelow sent.key r.key → IsTrue (options.revocations || not (nat_eq r.bits 2)) → HasRow (feed_of (rowed (more ++ es)) (documents (more ++ es)) sent.key options) r
  none_lost more es since options sent r doc h k b asked =
      let was = feed_had es since options sent h in
      feed_has (more ++ es) sent.key options r (doc, k, kept_from options sent.key r b (not_start sent.key (facts.positive es was.0 sent was.1)) asked)
