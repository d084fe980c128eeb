-- The law of devices, for any rows of documents of which a few facts hold.
use Rattle.std.proofs.Common.{◌≡◌, ℕ, ◌<◌, ◌≤◌, refl, sym, ◌∙◌, ap, subst, length-append, inl, inr, ◌⊎◌, ⊎_elim, arith, Bool, true, false, if◌then◌else◌, List, [], ◌∷◌, ◌++◌, length, take, Option, Some, None, ◌&&◌, not, nat_eq, nat_le}
use Rattle.std.proofs.lemmas.Bool.{false≢true, and_parts, and_cases, or_parts, or_left, eqb-true, leb-true, cases_Bool, not-false}
use Rattle.std.proofs.lemmas.List.{take_all}
use Rattle.std.proofs.lemmas.Option.{none-some, same_Some}
use Rattle.std.proofs.lemmas.Slice.Eq.{bytes_eq-Decides}
use Rattle.std.specs.Str.{bytes_eq}
use Rattle.std.specs.List.{filter_map, filter}
use Rattle.std.specs.Ordering.{is_lt}
use Rattle.sg_names.specs.declared.key.Key.{Key}
use Rattle.sg_names.specs.Key.{key_cmp}
use Rattle.sg_history.specs.declared.entries.Entry.{Entry}
use Rattle.sg_history.specs.declared.row.Row.{Row}
use Rattle.sg_history.specs.declared.row.Options.{Options}
use Rattle.sg_history.specs.History.{documents}
use Rattle.sg_history.specs.Feed.{keeps, is_start, is_gone, is_deleted}
use Rattle.sg_history.specs.Device.{Held, held_after, apply, apply_all, plain, last_key, live}
use Rattle.feed_rows.specs.Laws.{HasRow, IsBelow}
use Rattle.feed_rows.proofs.Keys.{below_from_under, below_or_not}
use Rattle.feed_rows.proofs.RowLists.{ordered_rises, taken_had, taken_or_above, last_key_of}
use Rattle.feed_rows.proofs.AnyFeed.{RowFacts, feed_of, feed_had, feed_has, from_start, revoked, kept_above, not_start}

-- what the test of a row's document says
same_doc : (a b : List ℕ) → bytes_eq a b ≡ true → a ≡ b
same_doc a b h = (bytes_eq-Decides a b).0 h

other_doc : (a b : List ℕ) → bytes_eq a b ≡ false → a ≡ b → ⊥
other_doc a b h e = false≢true (sym h ∙ (bytes_eq-Decides a b).1 e)

-- a copy after rows: as it was where none of them is of the document, else as one of them says
pub applied : (copy : List ℕ → Option Held) (rows : List Row) (doc : List ℕ) → ((apply_all copy rows doc ≡ copy doc) × ((r : Row) → HasRow rows r → r.doc ≡ doc → ⊥)) ⊎ ((r : Row) × HasRow rows r × (r.doc ≡ doc) × (apply_all copy rows doc ≡ held_after r))
applied copy [] doc = inl (refl, λ r h e. absurd h)
applied copy (x ∷ xs) doc = go (applied (apply copy x) xs doc) (bytes_eq x.doc doc) refl
  where
    go : ((apply_all (apply copy x) xs doc ≡ apply copy x doc) × ((r : Row) → HasRow xs r → r.doc ≡ doc → ⊥)) ⊎ ((r : Row) × HasRow xs r × (r.doc ≡ doc) × (apply_all (apply copy x) xs doc ≡ held_after r)) → (b : Bool) → bytes_eq x.doc doc ≡ b → ((apply_all copy (x ∷ xs) doc ≡ copy doc) × ((r : Row) → HasRow (x ∷ xs) r → r.doc ≡ doc → ⊥)) ⊎ ((r : Row) × HasRow (x ∷ xs) r × (r.doc ≡ doc) × (apply_all copy (x ∷ xs) doc ≡ held_after r))
    go (inr h) b e = inr (h.0, inr h.1, h.2, h.3)
    go (inl h) true e = inr (x, inl refl, same_doc x.doc doc e, h.0 ∙ ap (λ (b : Bool). if b then held_after x else copy doc) e)
    go (inl h) false e = inl (h.0 ∙ ap (λ (b : Bool). if b then held_after x else copy doc) e, none h.1)
      where
        none : ((r : Row) → HasRow xs r → r.doc ≡ doc → ⊥) → (r : Row) → HasRow (x ∷ xs) r → r.doc ≡ doc → ⊥
        none rest r (inl same) d = other_doc x.doc doc e (ap (λ (y : Row). y.doc) same ∙ d)
        none rest r (inr there) d = rest r there d

-- what is omitted does not count
live_gone : (options : Options) (gone : Bool) (held : Held) → (gone ≡ true) ⊎ ((options.active_only && held.deleted) ≡ true) → live options (if gone then None else Some held) ≡ None
live_gone options true held h = refl
live_gone options false held (inl e) = absurd (false≢true e)
live_gone options false held (inr e) = ap (λ (b : Bool). if b then None else Some held) e

pub omitted : (options : Options) (since : Key) (r : Row) → options.revocations ≡ true → IsBelow since r.key → keeps options since r ≡ false → (is_start since ≡ true) × (live options (held_after r) ≡ None)
omitted options since r asked below h =
    ⊎_elim
    (λ f. ⊎_elim (λ g. absurd (false≢true (sym g ∙ ap is_lt below))) (λ g. left g) (and_cases (is_lt (key_cmp since r.key)) (from_start options since r) f))
    (λ f. absurd (false≢true (sym f ∙ or_left options.revocations (not (nat_eq r.bits 2)) asked)))
    (and_cases (is_lt (key_cmp since r.key) && from_start options since r) (revoked options r) h)
  where
    left : from_start options since r ≡ false → (is_start since ≡ true) × (live options (held_after r) ≡ None)
    left g =
        let parts = or_parts (not (is_start since)) (not (is_gone r.bits) && not (options.active_only && is_deleted r.bits)) g in
        let either = and_cases (not (is_gone r.bits)) (not (options.active_only && is_deleted r.bits)) parts.1 in
        (not-false _ parts.0, live_gone options (is_gone r.bits) (record { rev = r.rev; deleted = is_deleted r.bits }) (⊎_elim (λ e. inl (not-false _ e)) (λ e. inr (not-false _ e)) either))

start_is_zero : (k : Key) → is_start k ≡ true → (k.by ≡ 0) × (k.seq ≡ 0)
start_is_zero k h = let parts = and_parts (nat_eq k.by 0) (nat_eq k.seq 0) h in (eqb-true k.by 0 parts.0, eqb-true k.seq 0 parts.1)

zero_is_start : (k : Key) → k.by ≡ 0 → k.seq ≡ 0 → is_start k ≡ true
zero_is_start k h g = rw (h, g) refl

nil_has : (r : Row) (rows : List Row) → rows ≡ [] → HasRow rows r → ⊥
nil_has r rows e h = let P : List Row → Type 0 = λ ys. HasRow ys r in subst P e h

module _ (rowed : List Entry → List ℕ → Option Row) (shown : List Entry → List ℕ → Option Held) (facts : RowFacts rowed shown) where
  -- a copy is as what is shown, but for what changed past the since key
  pub record Good (options : Options) (es : List Entry) (copy : List ℕ → Option Held) (since : Key) : Type 0 where
    pub by_bound : since.by ≤ length es
    pub seq_bound : since.seq ≤ since.by
    pub empty : is_start since ≡ true → (doc : List ℕ) → copy doc ≡ None
    pub agrees : (doc : List ℕ) → ((r : Row) → rowed es doc ≡ Some r → IsBelow since r.key → ⊥) → live options (copy doc) ≡ live options (shown es doc)

  -- a device begins so
  pub good_start : (options : Options) (es : List Entry) → Good options es (λ doc. None) (plain 0)
  good_start options es = record {
    by_bound = omega arith;
    seq_bound = omega arith;
    empty = λ h doc. refl;
    agrees = λ doc none. go doc none (rowed es doc) refl;
  }
    where
      go : (doc : List ℕ) → ((r : Row) → rowed es doc ≡ Some r → IsBelow (plain 0) r.key → ⊥) → (o : Option Row) → rowed es doc ≡ o → live options None ≡ live options (shown es doc)
      go doc none None e = ap (live options) (sym (facts.hidden es doc e))
      go doc none (Some r) e = absurd (none r e (below_from_under (plain 0) r.key (inl (omega (arith, facts.positive es doc r e, facts.seq_bound es doc r e)))))

  -- it stays so through more entries
  pub good_later : (options : Options) (more es : List Entry) (copy : List ℕ → Option Held) (since : Key) → Good options es copy since → Good options (more ++ es) copy since
  good_later options more es copy since good = record {
    by_bound = omega (arith, good.by_bound, length-append more es);
    seq_bound = good.seq_bound;
    empty = good.empty;
    agrees = λ doc none. go doc none (facts.later more es doc);
  }
    where
      go : (doc : List ℕ) → ((r : Row) → rowed (more ++ es) doc ≡ Some r → IsBelow since r.key → ⊥) → ((rowed (more ++ es) doc ≡ rowed es doc) × (shown (more ++ es) doc ≡ shown es doc)) ⊎ ((s : Row) × (rowed (more ++ es) doc ≡ Some s) × (length es < s.key.by)) → live options (copy doc) ≡ live options (shown (more ++ es) doc)
      go doc none (inl e) = good.agrees doc (λ r h b. none r (e.0 ∙ h) b) ∙ ap (live options) (sym e.1)
      go doc none (inr s) = absurd (none s.0 s.1 (below_from_under since s.0.key (inl (omega (arith, s.2, good.by_bound)))))

  -- after rows of the feed, each document whose row is among them where the feed has it is as shown
  pub took : (options : Options) (es : List Entry) (copy : List ℕ → Option Held) (since : Key) → options.revocations ≡ true → Good options es copy since → (rows : List Row) → ((r : Row) → HasRow rows r → HasRow (feed_of (rowed es) (documents es) since options) r) → (doc : List ℕ) → ((r : Row) → rowed es doc ≡ Some r → IsBelow since r.key → HasRow (feed_of (rowed es) (documents es) since options) r → HasRow rows r) → live options (apply_all copy rows doc) ≡ live options (shown es doc)
  took options es copy since asked good rows sub doc has = go (applied copy rows doc)
    where
      row_is : (r : Row) → HasRow rows r → r.doc ≡ doc → rowed es doc ≡ Some r
      row_is r h d =
          let x = feed_had rowed shown facts es since options r (sub r h) in
          let e : x.0 ≡ doc = sym (facts.own es x.0 r x.1) ∙ d in
          ap (rowed es) (sym e) ∙ x.1

      no_row : ((r : Row) → HasRow rows r → r.doc ≡ doc → ⊥) → (o : Option Row) → rowed es doc ≡ o → live options (copy doc) ≡ live options (shown es doc)
      no_row none None e = good.agrees doc (λ r h b. absurd (none-some _ (sym e ∙ h)))
      no_row none (Some r) e = ⊎_elim (λ b. above b (cases_Bool (keeps options since r))) (λ n. good.agrees doc (λ s h b. n (same s h b))) (below_or_not since r.key)
        where
          same : (s : Row) → rowed es doc ≡ Some s → IsBelow since s.key → IsBelow since r.key
          same s h b = let P : Row → Type 0 = λ y. IsBelow since y.key in subst P (same_Some s r (sym h ∙ e)) b

          above : IsBelow since r.key → (keeps options since r ≡ true) ⊎ (keeps options since r ≡ false) → live options (copy doc) ≡ live options (shown es doc)
          above b (inl k) = absurd (none r (has r e b (feed_has rowed shown facts es since options r (doc, e, k))) (facts.own es doc r e))
          above b (inr k) =
              let x = omitted options since r asked b k in
              ap (live options) (good.empty x.0 doc) ∙ sym (ap (live options) (facts.shows es doc r e) ∙ x.1)

      go : ((apply_all copy rows doc ≡ copy doc) × ((r : Row) → HasRow rows r → r.doc ≡ doc → ⊥)) ⊎ ((r : Row) × HasRow rows r × (r.doc ≡ doc) × (apply_all copy rows doc ≡ held_after r)) → live options (apply_all copy rows doc) ≡ live options (shown es doc)
      go (inl h) = ap (live options) h.0 ∙ no_row h.1 (rowed es doc) refl
      go (inr h) = ap (live options) (h.3 ∙ sym (facts.shows es doc h.0 (row_is h.0 h.1 h.2)))

  -- who takes the whole feed has all that is shown
  pub took_all : (options : Options) (es : List Entry) (copy : List ℕ → Option Held) (since : Key) (n : ℕ) → options.revocations ≡ true → Good options es copy since → length (feed_of (rowed es) (documents es) since options) ≤ n → (doc : List ℕ) → live options (apply_all copy (take n (feed_of (rowed es) (documents es) since options)) doc) ≡ live options (shown es doc)
  took_all options es copy since n asked good whole doc =
      let rows : List Row = feed_of (rowed es) (documents es) since options in
      let all : take n rows ≡ rows = take_all n rows whole in
      let P : List Row → Type 0 = λ taken. live options (apply_all copy taken doc) ≡ live options (shown es doc) in
      subst P (sym all) (took options es copy since asked good rows (λ r h. h) doc (λ r e b h. h))

  -- where nothing was kept, and no row of the document comes, nothing is kept
  still_none : (copy : List ℕ → Option Held) (rows : List Row) (doc : List ℕ) → ((r : Row) → HasRow rows r → ⊥) → copy doc ≡ None → apply_all copy rows doc ≡ None
  still_none copy rows doc none h =
      ⊎_elim (λ x. x.0 ∙ h) (λ x. absurd (none x.0 x.1)) (applied copy rows doc)

  good_whole : (options : Options) (es : List Entry) (copy : List ℕ → Option Held) (since : Key) (n front : ℕ) → options.revocations ≡ true → front ≡ length es → Good options es copy since → length (feed_of (rowed es) (documents es) since options) ≤ n → Good options es (apply_all copy (take n (feed_of (rowed es) (documents es) since options))) (plain front)
  good_whole options es copy since n front asked at good whole = record {
    by_bound = omega (arith, at);
    seq_bound = omega arith;
    empty = λ h doc. begun (start_is_zero (plain front) h).0 doc;
    agrees = λ doc none. took_all options es copy since n asked good whole doc;
  }
    where
      begun : front ≡ 0 → (doc : List ℕ) → apply_all copy (take n (feed_of (rowed es) (documents es) since options)) doc ≡ None
      begun z doc =
          still_none copy (take n (feed_of (rowed es) (documents es) since options)) doc
          (λ r h. let x = feed_had rowed shown facts es since options r (taken_had n _ r h) in omega (arith, z, at, facts.positive es x.0 r x.1, facts.seq_bound es x.0 r x.1, facts.by_bound es x.0 r x.1))
          (good.empty (zero_is_start since (omega (arith, z, at, good.by_bound)) (omega (arith, z, at, good.by_bound, good.seq_bound))) doc)

  good_part : (options : Options) (es : List Entry) (copy : List ℕ → Option Held) (since : Key) (n : ℕ) → options.revocations ≡ true → Good options es copy since → Good options es (apply_all copy (take n (feed_of (rowed es) (documents es) since options))) (last_key since (take n (feed_of (rowed es) (documents es) since options)))
  good_part options es copy since n asked good = go (last_key_of since (take n rows))
    where
      rows : List Row
      rows = feed_of (rowed es) (documents es) since options

      upto : Key
      upto = last_key since (take n rows)

      above : (r : Row) → HasRow rows r → IsBelow since r.key
      above r h = kept_above options since r (feed_had rowed shown facts es since options r h).2

      agreed : (doc : List ℕ) → ((r : Row) → rowed es doc ≡ Some r → IsBelow upto r.key → ⊥) → live options (apply_all copy (take n rows) doc) ≡ live options (shown es doc)
      agreed doc none =
          took options es copy since asked good (take n rows) (taken_had n rows) doc
          (λ r e b h. ⊎_elim (λ t. t) (λ over. absurd (none r e over)) (taken_or_above n rows since r (ordered_rises (filter (λ x. keeps options since x) (filter_map (rowed es) (documents es)))) above h))

      go : ((take n rows ≡ []) × (upto ≡ since)) ⊎ ((r : Row) × HasRow (take n rows) r × (upto ≡ r.key)) → Good options es (apply_all copy (take n rows)) upto
      go (inl h) =
          let by = ap (λ (k : Key). k.by) h.1 in
          let seq = ap (λ (k : Key). k.seq) h.1 in
          record {
            by_bound = omega (arith, by, good.by_bound);
            seq_bound = omega (arith, by, seq, good.seq_bound);
            empty = λ e doc. still_none copy (take n rows) doc (λ r there. nil_has r (take n rows) h.0 there) (good.empty (ap is_start (sym h.1) ∙ e) doc);
            agrees = agreed;
          }
      go (inr h) =
          let by = ap (λ (k : Key). k.by) h.2 in
          let seq = ap (λ (k : Key). k.seq) h.2 in
          let x = feed_had rowed shown facts es since options h.0 (taken_had n rows h.0 h.1) in
          record {
            by_bound = omega (arith, by, facts.by_bound es x.0 h.0 x.1);
            seq_bound = omega (arith, by, seq, facts.seq_bound es x.0 h.0 x.1);
            empty = λ e doc. absurd (false≢true (sym (not_start upto (omega (arith, seq, facts.positive es x.0 h.0 x.1))) ∙ e));
            agrees = agreed;
          }

  -- a device stays so when it takes the first rows of a feed
  pub good_after : (options : Options) (es : List Entry) (copy : List ℕ → Option Held) (since : Key) (n front : ℕ) → options.revocations ≡ true → front ≡ length es → Good options es copy since → Good options es (apply_all copy (take n (feed_of (rowed es) (documents es) since options))) (if nat_le (length (feed_of (rowed es) (documents es) since options)) n then plain front else last_key since (take n (feed_of (rowed es) (documents es) since options)))
  good_after options es copy since n front asked at good = go (nat_le (length rows) n) refl
    where
      rows : List Row
      rows = feed_of (rowed es) (documents es) since options

      go : (b : Bool) → nat_le (length rows) n ≡ b → Good options es (apply_all copy (take n rows)) (if b then plain front else last_key since (take n rows))
      go true h = good_whole options es copy since n front asked at good (leb-true (length rows) n h)
      go false h = good_part options es copy since n asked good
