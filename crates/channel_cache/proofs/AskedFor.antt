-- channels that are asked for in turn
use Rattle.std.proofs.Common.{◌≡◌, ℕ, refl, sym, ◌∙◌, ap, Bool, true, false, ◌&&◌, ◌||◌, not, if◌then◌else◌, List, [], ◌∷◌, ◌++◌, Option, Some, None, nat_eq}
use Rattle.std.specs.Prelude.{is_some}
use Rattle.std.specs.Str.{bytes_eq}
use Rattle.std.specs.Cmp.Lexicographic.{bytes_decides}
use Rattle.std.proofs.lemmas.Bool.{false≢true, true≢false}
use Rattle.std.proofs.lemmas.List.Folds.{list_any-append}
use Rattle.sg_history.specs.declared.entries.Entry.{Entry}
use Rattle.sg_history.specs.declared.entries.Write.{Write}
use Rattle.sg_history.specs.History.{among}
use Rattle.sg_history.specs.Current.{Current, current}
use Rattle.log_index.specs.Marks.{write_of}
use Rattle.log_index.specs.Places.{next_at}
use Rattle.channel_cache.specs.inner.Asking.{AreFull, Asks, HasNothing, names_of}
use Rattle.channel_cache.specs.inner.Counting.{AreLists, is_in_list, is_listed_by}
use Rattle.channel_cache.specs.Listed.{is_in, is_in_one, is_listed}
use Rattle.channel_cache.specs.Sequences.{Lists, holds, holds_in, holds_of, is_kept, list_of}
use Rattle.channel_cache.specs.Stands.{has, is_last}
use Rattle.channel_cache.specs.declared.sequences.Sequences.{Sequences}
use Rattle.channel_cache.proofs.Changing.{same_name}
use Rattle.channel_cache.proofs.Filled.{last_in}
use Rattle.channel_cache.proofs.Names.{kept_among}

and_twice : (a b : Bool) → ((a && b) && b) ≡ (a && b)
and_twice true true = refl
and_twice true false = refl
and_twice false b = refl

both : (a b : Bool) → (a && b) ≡ true → (a ≡ true) × (b ≡ true)
both true b h = (refl, h)
both false b h = absurd (false≢true h)

either : {P : Type 0} (a b : Bool) → (a || b) ≡ true → (a ≡ true → P) → (b ≡ true → P) → P
either true b h one other = one refl
either false b h one other = other h

or_left : (a b : Bool) → a ≡ true → (a || b) ≡ true
or_left a b h = ap (λ (x : Bool). x || b) h

or_right : (a b : Bool) → b ≡ true → (a || b) ≡ true
or_right true b h = refl
or_right false b h = h

-- one more channel
pub among_more : (xs : List (List ℕ)) (x c : List ℕ) → among (xs ++ x ∷ []) c ≡ (among xs c || bytes_eq x c)
among_more [] x c = by (bytes_eq x c)
  where
    by : (b : Bool) → (b || false) ≡ b
    by true = refl
    by false = refl
among_more (y ∷ ys) x c = ap (λ (b : Bool). bytes_eq y c || b) (among_more ys x c) ∙ again (bytes_eq y c) (among ys c) (bytes_eq x c)
  where
    again : (a b d : Bool) → (a || (b || d)) ≡ ((a || b) || d)
    again true b d = refl
    again false b d = refl

in_more : (es : List Entry) (xs : List (List ℕ)) (x : List ℕ) (s : ℕ) → is_in_list es (xs ++ x ∷ []) s ≡ (is_in_list es xs s || is_in_list es (x ∷ []) s)
in_more es xs x s = by (write_of es s)
  where
    spread : (a b d : Bool) → (a && (b || d)) ≡ ((a && b) || (a && d))
    spread true b d = refl
    spread false b d = refl

    state : (o : Option Current) → is_listed (xs ++ x ∷ []) s o ≡ (is_listed xs s o || is_listed (x ∷ []) s o)
    state None = refl
    state (Some c) =
        ap (λ (b : Bool). nat_eq c.seq s && b) (list_any-append (λ (channel : List ℕ). is_in channel c) xs (x ∷ []))
        ∙ spread (nat_eq c.seq s) (is_in_one xs c) (is_in_one (x ∷ []) c)

    by : (o : Option Write) → is_listed_by es (xs ++ x ∷ []) s o ≡ (is_listed_by es xs s o || is_listed_by es (x ∷ []) s o)
    by None = refl
    by (Some w) = state (current es w.doc)

-- nothing is asked for yet
pub asks_none : (es : List Entry) (lists : Lists) → AreLists es lists → Asks es lists [] [] []
asks_none es lists are = record {
  kept = λ c s kept other. are c s kept;
  nothing = λ c s kept wanted. absurd (false≢true wanted);
  within = λ c wanted. absurd (false≢true wanted);
  of = λ s h. absurd (false≢true h);
  all = λ c s h other listed. absurd (false≢true h);
}

-- once nothing is wanted the lists are those that they are
pub asks_done : (es : List Entry) (lists : Lists) (found : List ℕ) (channels : List (List ℕ)) → Asks es lists [] found channels → AreLists es lists
asks_done es lists found channels asks = λ c s kept. asks.kept c s kept refl

-- a channel that has a list
pub asks_kept : (es : List Entry) (counts : ℕ → Bool) → ((s : ℕ) → counts s ≡ is_last (next_at es s)) → (a : List ℕ) (old new wanted : Lists) (found more : List ℕ) (earlier : List (List ℕ))
    → ((c : List ℕ) → is_kept new c ≡ is_kept old c) → is_kept old a ≡ true
    → ((c : List ℕ) (s : ℕ) → holds_of new c s ≡ (holds_of old c s && (not (bytes_eq a c) || counts s)))
    → ((s : ℕ) → has more s ≡ (has found s || holds_of new a s))
    → Asks es old wanted found earlier → Asks es new wanted more (earlier ++ a ∷ [])
asks_kept es counts same a old new wanted found more earlier names here holding added asks = record {
  kept = λ c s kept other. was c s (bytes_eq a c) refl (sym (names c) ∙ kept) other;
  nothing = λ c s kept want. holding c s ∙ ap (λ (b : Bool). b && (not (bytes_eq a c) || counts s)) (asks.nothing c s (sym (names c) ∙ kept) want);
  within = λ c want. among_more earlier a c ∙ or_left (among earlier c) (bytes_eq a c) (asks.within c want);
  of = λ s h. in_more es earlier a s ∙ either (has found s) (holds_of new a s) (sym (added s) ∙ h)
      (λ first. or_left (is_in_list es earlier s) (is_in_list es (a ∷ []) s) (asks.of s first))
      (λ own. or_right (is_in_list es earlier s) (is_in_list es (a ∷ []) s) (own_in s own (is_kept wanted a) refl));
  all = λ c s h other listed. added s ∙ either (among earlier c) (bytes_eq a c) (sym (among_more earlier a c) ∙ h)
      (λ first. or_left (has found s) (holds_of new a s) (asks.all c s first other listed))
      (λ one. or_right (has found s) (holds_of new a s) (own_holds s (ap (is_kept wanted) (same_name a c one) ∙ other) (ap (λ (x : List ℕ). is_in_list es (x ∷ []) s) (same_name a c one) ∙ listed)));
}
  where
    self : bytes_eq a a ≡ true
    self = (bytes_decides a a).1 refl

    own : (s : ℕ) → holds_of new a s ≡ (holds_of old a s && is_last (next_at es s))
    own s = holding a s ∙ ap (λ (b : Bool). holds_of old a s && (not b || counts s)) self ∙ ap (λ (b : Bool). holds_of old a s && b) (same s)

    was : (c : List ℕ) (s : ℕ) (b : Bool) → bytes_eq a c ≡ b → is_kept old c ≡ true → is_kept wanted c ≡ false → (holds_of new c s && is_last (next_at es s)) ≡ is_in_list es (c ∷ []) s
    was c s true is kept other =
        ap (λ (b : Bool). b && is_last (next_at es s)) (holding c s ∙ ap (λ (b : Bool). holds_of old c s && (not b || counts s)) is ∙ ap (λ (b : Bool). holds_of old c s && b) (same s))
        ∙ and_twice (holds_of old c s) (is_last (next_at es s))
        ∙ asks.kept c s kept other
    was c s false is kept other =
        ap (λ (b : Bool). b && is_last (next_at es s)) (holding c s ∙ ap (λ (b : Bool). holds_of old c s && (not b || counts s)) is ∙ plain (holds_of old c s))
        ∙ asks.kept c s kept other
      where
        plain : (b : Bool) → (b && true) ≡ b
        plain true = refl
        plain false = refl

    own_in : (s : ℕ) → holds_of new a s ≡ true → (b : Bool) → is_kept wanted a ≡ b → is_in_list es (a ∷ []) s ≡ true
    own_in s h true want = absurd (true≢false (sym (both (holds_of old a s) (is_last (next_at es s)) (sym (own s) ∙ h)).0 ∙ asks.nothing a s here want))
    own_in s h false other = sym (asks.kept a s here other) ∙ sym (own s) ∙ h

    own_holds : (s : ℕ) → is_kept wanted a ≡ false → is_in_list es (a ∷ []) s ≡ true → holds_of new a s ≡ true
    own_holds s other listed = own s ∙ asks.kept a s here other ∙ listed

-- a channel that has none, which is wanted
pub asks_wanted : (es : List Entry) (a : List ℕ) (old new before wanted : Lists) (found : List ℕ) (earlier : List (List ℕ))
    → ((c : List ℕ) → is_kept new c ≡ true → (bytes_eq a c || is_kept old c) ≡ true)
    → ((c : List ℕ) (s : ℕ) → is_kept new c ≡ true → holds_of new c s ≡ (holds_of old c s && not (bytes_eq a c)))
    → ((c : List ℕ) → is_kept wanted c ≡ (bytes_eq a c || is_kept before c))
    → Asks es old before found earlier → Asks es new wanted found (earlier ++ a ∷ [])
asks_wanted es a old new before wanted found earlier names holding wants asks = record {
  kept = λ c s kept other. was c s kept other;
  nothing = λ c s kept want. none c s kept (bytes_eq a c) refl (sym (wants c) ∙ want);
  within = λ c want. among_more earlier a c ∙ either (bytes_eq a c) (is_kept before c) (sym (wants c) ∙ want)
      (λ one. or_right (among earlier c) (bytes_eq a c) one) (λ first. or_left (among earlier c) (bytes_eq a c) (asks.within c first));
  of = λ s h. in_more es earlier a s ∙ or_left (is_in_list es earlier s) (is_in_list es (a ∷ []) s) (asks.of s h);
  all = λ c s h other listed. either (among earlier c) (bytes_eq a c) (sym (among_more earlier a c) ∙ h)
      (λ first. asks.all c s first (apart c other).1 listed)
      (λ one. absurd (true≢false (sym one ∙ (apart c other).0)));
}
  where
    neither : (x y : Bool) → (x || y) ≡ false → (x ≡ false) × (y ≡ false)
    neither true y h = absurd (true≢false h)
    neither false y h = (refl, h)

    apart : (c : List ℕ) → is_kept wanted c ≡ false → (bytes_eq a c ≡ false) × (is_kept before c ≡ false)
    apart c other = neither (bytes_eq a c) (is_kept before c) (sym (wants c) ∙ other)

    plain : (b : Bool) → (b && true) ≡ b
    plain true = refl
    plain false = refl

    nothing : (b : Bool) → (b && false) ≡ false
    nothing true = refl
    nothing false = refl

    older : (c : List ℕ) → is_kept new c ≡ true → bytes_eq a c ≡ false → is_kept old c ≡ true
    older c kept other = ap (λ (b : Bool). b || is_kept old c) (sym other) ∙ names c kept

    was : (c : List ℕ) (s : ℕ) → is_kept new c ≡ true → is_kept wanted c ≡ false → (holds_of new c s && is_last (next_at es s)) ≡ is_in_list es (c ∷ []) s
    was c s kept other =
        let two = apart c other in
        ap (λ (b : Bool). b && is_last (next_at es s)) (holding c s kept ∙ ap (λ (b : Bool). holds_of old c s && not b) two.0 ∙ plain (holds_of old c s))
        ∙ asks.kept c s (older c kept two.0) two.1

    none : (c : List ℕ) (s : ℕ) → is_kept new c ≡ true → (b : Bool) → bytes_eq a c ≡ b → (bytes_eq a c || is_kept before c) ≡ true → holds_of new c s ≡ false
    none c s kept true is want = holding c s kept ∙ ap (λ (b : Bool). holds_of old c s && not b) is ∙ nothing (holds_of old c s)
    none c s kept false is want =
        holding c s kept
        ∙ ap (λ (b : Bool). holds_of old c s && not b) is
        ∙ plain (holds_of old c s)
        ∙ asks.nothing c s (older c kept is) (ap (λ (b : Bool). b || is_kept before c) (sym is) ∙ want)

-- what was filled of a channel is its list
pub asks_taken : (es : List Entry) (a : List ℕ) (old new before wanted : Lists) (found more : List ℕ) (channels : List (List ℕ)) (list : Sequences)
    → list_of before a ≡ Some list
    → ((c : List ℕ) → is_kept new c ≡ is_kept old c)
    → ((c : List ℕ) (s : ℕ) → is_kept old c ≡ true → holds_of new c s ≡ (if bytes_eq a c then holds list s else holds_of old c s))
    → ((c : List ℕ) → is_kept wanted c ≡ (is_kept before c && not (bytes_eq a c)))
    → ((s : ℕ) → has more s ≡ (has found s || holds list s))
    → AreFull es before → Asks es old before found channels → Asks es new wanted more channels
asks_taken es a old new before wanted found more channels list there names holding wants added full asks = record {
  kept = λ c s kept other. was c s (sym (names c) ∙ kept) (bytes_eq a c) refl (sym (wants c) ∙ other);
  nothing = λ c s kept want. none c s (sym (names c) ∙ kept) (both (is_kept before c) (not (bytes_eq a c)) (sym (wants c) ∙ want)) (bytes_eq a c) refl;
  within = λ c want. asks.within c (both (is_kept before c) (not (bytes_eq a c)) (sym (wants c) ∙ want)).0;
  of = λ s h. either (has found s) (holds list s) (sym (added s) ∙ h) (λ first. asks.of s first) (λ own. in_all s (sym (filled s) ∙ own));
  all = λ c s h other listed. added s ∙ rest c s h (is_kept before c) refl (bytes_eq a c) refl (sym (wants c) ∙ other) listed;
}
  where
    is_wanted : is_kept before a ≡ true
    is_wanted = ap is_some there

    filled : (s : ℕ) → holds list s ≡ is_in_list es (a ∷ []) s
    filled s = ap (λ (o : Option Sequences). holds_in o s) (sym there) ∙ full a s is_wanted

    -- what is in one of several channels is in these
    in_all : (s : ℕ) → is_in_list es (a ∷ []) s ≡ true → is_in_list es channels s ≡ true
    in_all s listed = by (write_of es s) listed
      where
        any : (c : Current) (xs : List (List ℕ)) → among xs a ≡ true → is_in a c ≡ true → is_in_one xs c ≡ true
        any c [] h is = absurd (false≢true h)
        any c (x ∷ xs) h is = either (bytes_eq x a) (among xs a) h
            (λ one. or_left (is_in x c) (is_in_one xs c) (ap (λ (n : List ℕ). is_in n c) (same_name x a one) ∙ is))
            (λ later. or_right (is_in x c) (is_in_one xs c) (any c xs later is))

        alone : (b : Bool) → (b || false) ≡ true → b ≡ true
        alone true h = refl
        alone false h = absurd (false≢true h)

        state : (o : Option Current) → is_listed (a ∷ []) s o ≡ true → is_listed channels s o ≡ true
        state None h = absurd (false≢true h)
        state (Some c) h =
            let two = both (nat_eq c.seq s) (is_in a c || false) h in
            ap (λ (b : Bool). b && is_in_one channels c) two.0 ∙ any c channels (asks.within a is_wanted) (alone (is_in a c) two.1)

        by : (o : Option Write) → is_listed_by es (a ∷ []) s o ≡ true → is_listed_by es channels s o ≡ true
        by None h = absurd (false≢true h)
        by (Some w) h = state (current es w.doc) h

    was : (c : List ℕ) (s : ℕ) → is_kept old c ≡ true → (b : Bool) → bytes_eq a c ≡ b → (is_kept before c && not (bytes_eq a c)) ≡ false → (holds_of new c s && is_last (next_at es s)) ≡ is_in_list es (c ∷ []) s
    was c s kept true is other =
        ap (λ (b : Bool). b && is_last (next_at es s)) (holding c s kept ∙ ap (λ (b : Bool). if b then holds list s else holds_of old c s) is ∙ filled s ∙ ap (λ (n : List ℕ). is_in_list es (n ∷ []) s) (same_name a c is))
        ∙ last_in es (c ∷ []) s
    was c s kept false is other =
        ap (λ (b : Bool). b && is_last (next_at es s)) (holding c s kept ∙ ap (λ (b : Bool). if b then holds list s else holds_of old c s) is)
        ∙ asks.kept c s kept (one (is_kept before c) (ap (λ (b : Bool). is_kept before c && not b) (sym is) ∙ other))
      where
        one : (b : Bool) → (b && true) ≡ false → b ≡ false
        one true h = h
        one false h = refl

    none : (c : List ℕ) (s : ℕ) → is_kept old c ≡ true → (is_kept before c ≡ true) × (not (bytes_eq a c) ≡ true) → (b : Bool) → bytes_eq a c ≡ b → holds_of new c s ≡ false
    none c s kept two true is = absurd (true≢false (sym two.1 ∙ ap not is))
    none c s kept two false is = holding c s kept ∙ ap (λ (b : Bool). if b then holds list s else holds_of old c s) is ∙ asks.nothing c s kept two.0

    rest : (c : List ℕ) (s : ℕ) → among channels c ≡ true → (b : Bool) → is_kept before c ≡ b → (x : Bool) → bytes_eq a c ≡ x → (is_kept before c && not (bytes_eq a c)) ≡ false → is_in_list es (c ∷ []) s ≡ true → (has found s || holds list s) ≡ true
    rest c s h b at true is other listed = or_right (has found s) (holds list s) (filled s ∙ ap (λ (n : List ℕ). is_in_list es (n ∷ []) s) (same_name a c is) ∙ listed)
    rest c s h false at false is other listed = or_left (has found s) (holds list s) (asks.all c s h at listed)
    rest c s h true at false is other listed = absurd (true≢false (sym (ap (λ (b : Bool). b && true) at) ∙ ap (λ (b : Bool). is_kept before c && not b) (sym is) ∙ other))

-- lists of nothing, with one more of nothing
pub nothing_more : (a : List ℕ) (old new : Lists) → HasNothing old → ((c : List ℕ) (s : ℕ) → is_kept new c ≡ true → holds_of new c s ≡ (holds_of old c s && not (bytes_eq a c))) → HasNothing new
nothing_more a old new none holding c s = by (list_of new c) refl
  where
    by : (o : Option Sequences) → list_of new c ≡ o → holds_of new c s ≡ false
    by None is = ap (λ (o : Option Sequences). holds_in o s) is
    by (Some l) is = holding c s (ap is_some is) ∙ ap (λ (b : Bool). b && not (bytes_eq a c)) (none c s)

-- with other lists of the same wanted channels
pub asks_same : (es : List Entry) (lists old new : Lists) (found : List ℕ) (channels : List (List ℕ)) → names_of new ≡ names_of old → Asks es lists old found channels → Asks es lists new found channels
asks_same es lists old new found channels names asks = record {
  kept = λ c s kept other. asks.kept c s kept (sym (same c) ∙ other);
  nothing = λ c s kept want. asks.nothing c s kept (sym (same c) ∙ want);
  within = λ c want. asks.within c (sym (same c) ∙ want);
  of = asks.of;
  all = λ c s h other listed. asks.all c s h (sym (same c) ∙ other) listed;
}
  where
    same : (c : List ℕ) → is_kept new c ≡ is_kept old c
    same c = kept_among new c ∙ ap (λ (l : List (List ℕ)). among l c) names ∙ sym (kept_among old c)

-- the lists of the wanted without one of them are full still
pub full_without : (es : List Entry) (a : List ℕ) (old new : Lists) → ((c : List ℕ) → is_kept new c ≡ (is_kept old c && not (bytes_eq a c))) → ((c : List ℕ) → bytes_eq a c ≡ false → list_of new c ≡ list_of old c) → AreFull es old → AreFull es new
full_without es a old new names lists full c s kept = by (bytes_eq a c) refl (both (is_kept old c) (not (bytes_eq a c)) (sym (names c) ∙ kept))
  where
    by : (b : Bool) → bytes_eq a c ≡ b → (is_kept old c ≡ true) × (not (bytes_eq a c) ≡ true) → holds_of new c s ≡ is_in_list es (c ∷ []) s
    by true is two = absurd (true≢false (sym two.1 ∙ ap not is))
    by false is two = ap (λ (o : Option Sequences). holds_in o s) (lists c is) ∙ full c s two.0

-- a channel that is not wanted is taken
pub not_wanted : (a : List ℕ) (lists : Lists) → list_of lists a ≡ None → (c : List ℕ) → is_kept lists c ≡ (is_kept lists c && not (bytes_eq a c))
not_wanted a lists none c = by (bytes_eq a c) refl
  where
    plain : (b : Bool) → b ≡ (b && true)
    plain true = refl
    plain false = refl

    by : (b : Bool) → bytes_eq a c ≡ b → is_kept lists c ≡ (is_kept lists c && not b)
    by true is =
        let gone : is_kept lists c ≡ false = ap (is_kept lists) (sym (same_name a c is)) ∙ ap is_some none in
        gone ∙ ap (λ (b : Bool). b && false) (sym gone)
    by false is = plain (is_kept lists c)

-- once all channels are taken nothing is wanted
pub none_wanted : (es : List Entry) (lists wanted : Lists) (found : List ℕ) (channels : List (List ℕ)) → ((c : List ℕ) → is_kept wanted c ≡ true → among channels c ≡ false) → Asks es lists wanted found channels → Asks es lists [] found channels
none_wanted es lists wanted found channels gone asks = record {
  kept = λ c s kept other. asks.kept c s kept (none c);
  nothing = λ c s kept want. absurd (false≢true want);
  within = λ c want. absurd (false≢true want);
  of = asks.of;
  all = λ c s h other listed. asks.all c s h (none c) listed;
}
  where
    none : (c : List ℕ) → is_kept wanted c ≡ false
    none c = by (is_kept wanted c) refl
      where
        by : (b : Bool) → is_kept wanted c ≡ b → b ≡ false
        by true is = absurd (true≢false (sym (asks.within c is) ∙ gone c is))
        by false is = refl
