-- The message under way that sends next, and the order of those of which nothing was sent.
use Rattle.std.proofs.Common.{◌≡◌, ℕ, ◌+◌, ◌-◌, Bool, true, false, ◌&&◌, cond, eqb, List, [], ◌∷◌, ◌++◌, length, Some, None, refl, ap, subst, ◌∙◌, arith, ◌⊎◌, inl, inr}
use Rattle.std.specs.Prelude.{map}
use Rattle.std.specs.Option.{option_or}
use Rattle.std.proofs.lemmas.Bool.{eqb-true, ne_eqb, le-leb, and_parts, both_ways}
use Rattle.std.proofs.lemmas.List.{append-nil}
use Rattle.blip_frame.specs.Frame.{largest_written}
use Rattle.blip_mux.specs.Joining.{is_request}
use Rattle.blip_mux.specs.Sending.{Waiting, may_send, pause_above, has_more, without_piece, back, taken_out, chosen}
use Rattle.blip_mux.specs.Order.{CountsFrom}
use Rattle.blip_mux.proofs.Cuts.{Found, Split, behind}
use Rattle.blip_mux.proofs.Pending.{Pending, waits, further, waits_further}

pub map-append : (xs ys : List Pending) → map waits (xs ++ ys) ≡ map waits xs ++ map waits ys
map-append [] ys = refl
map-append (x ∷ xs) ys = ap (λ (ws : List Waiting). waits x ∷ ws) (map-append xs ys)

-- ---- the first message that passes

abbrev pub AllFail : (Waiting → Bool) → List Pending → Type 0
AllFail passes [] = Unit {0}
AllFail passes (p ∷ ps) = (passes (waits p) ≡ false) × AllFail passes ps

pub record Out (passes : Waiting → Bool) (ps : List Pending) : Type 0 where
  pub front : List Pending
  pub it : Pending
  pub rear : List Pending
  pub whole : ps ≡ front ++ it ∷ rear
  pub taken : taken_out passes (map waits ps) ≡ Some (waits it, map waits (front ++ rear))
  pub passed : passes (waits it) ≡ true
  pub failed : AllFail passes front

out_of : (passes : Waiting → Bool) (ps : List Pending) → (taken_out passes (map waits ps) ≡ None) ⊎ Out passes ps
out_of passes [] = inl refl
out_of passes (p ∷ ps) = go (passes (waits p)) refl (out_of passes ps) where
  go : (b : Bool) → passes (waits p) ≡ b → (taken_out passes (map waits ps) ≡ None) ⊎ Out passes ps → (taken_out passes (map waits (p ∷ ps)) ≡ None) ⊎ Out passes (p ∷ ps)
  go true is rest = inr (record {
    front = [];
    it = p;
    rear = ps;
    whole = refl;
    taken = ap (λ (b : Bool). cond {A = Found} b (Some (waits p, map waits ps)) (behind (waits p) (taken_out passes (map waits ps)))) is;
    passed = is;
    failed = tt;
  })
  go false is (inl none) =
      inl (ap (λ (b : Bool). cond {A = Found} b (Some (waits p, map waits ps)) (behind (waits p) (taken_out passes (map waits ps)))) is ∙ ap (behind (waits p)) none)
  go false is (inr out) = inr (record {
    front = p ∷ out.front;
    it = out.it;
    rear = out.rear;
    whole = ap (λ (qs : List Pending). p ∷ qs) out.whole;
    taken = ap (λ (b : Bool). cond {A = Found} b (Some (waits p, map waits ps)) (behind (waits p) (taken_out passes (map waits ps)))) is ∙ ap (behind (waits p)) out.taken;
    passed = out.passed;
    failed = (is, out.failed);
  })

-- ---- requests of which nothing was sent

abbrev pub is_fresh : Waiting → Bool
is_fresh w = is_request w.kind && eqb w.sent 0

abbrev pub fresh : List Waiting → List ℕ
fresh [] = []
fresh (w ∷ ws) = cond (is_fresh w) (w.number ∷ fresh ws) (fresh ws)

pub fresh-append : (xs ys : List Waiting) → fresh (xs ++ ys) ≡ fresh xs ++ fresh ys
fresh-append [] ys = refl
fresh-append (x ∷ xs) ys = go (is_fresh x) (fresh-append xs ys) where
  go : (b : Bool) → fresh (xs ++ ys) ≡ fresh xs ++ fresh ys → cond b (x.number ∷ fresh (xs ++ ys)) (fresh (xs ++ ys)) ≡ cond b (x.number ∷ fresh xs) (fresh xs) ++ fresh ys
  go true e = ap (λ (ns : List ℕ). x.number ∷ ns) e
  go false e = e

-- a message of which nothing was sent may send
stale : (w : Waiting) → may_send w ≡ false → is_fresh w ≡ false
stale w e = go (is_request w.kind) (eqb w.sent 0) (λ z. eqb-true w.sent 0 z) where
  go : (r z : Bool) → (z ≡ true → w.sent ≡ 0) → (r && z) ≡ false
  go true true zero_sent = absurd (both_ways (may_send w) e (le-leb (w.sent - w.acknowledged) pause_above (let s = zero_sent refl in omega arith)))
  go true false zero_sent = refl
  go false z zero_sent = refl

none_fresh : (ps : List Pending) → AllFail may_send ps → fresh (map waits ps) ≡ []
none_fresh [] fail = refl
none_fresh (p ∷ ps) fail = ap (λ (b : Bool). cond b (p.message.number ∷ fresh (map waits ps)) (fresh (map waits ps))) (stale (waits p) fail.0) ∙ none_fresh ps fail.1

-- ---- the message that sends next

pub record Choice (ps : List Pending) : Type 0 where
  pub front : List Pending
  pub it : Pending
  pub rear : List Pending
  pub whole : ps ≡ front ++ it ∷ rear
  pub taken : chosen (map waits ps) ≡ Some (waits it, map waits (front ++ rear))
  pub first : is_fresh (waits it) ≡ true → (is_request it.message.kind ≡ true → it.message.urgent ≡ false) → fresh (map waits front) ≡ []

abbrev urgently : Waiting → Bool
urgently w = w.urgent && may_send w

pub choice : (ps : List Pending) → (chosen (map waits ps) ≡ None) ⊎ Choice ps
choice ps = go (out_of urgently ps) (out_of may_send ps) where
  go : (taken_out urgently (map waits ps) ≡ None) ⊎ Out urgently ps → (taken_out may_send (map waits ps) ≡ None) ⊎ Out may_send ps → (chosen (map waits ps) ≡ None) ⊎ Choice ps
  go (inr out) rest = inr (record {
    front = out.front;
    it = out.it;
    rear = out.rear;
    whole = out.whole;
    taken = ap (λ (o : Found). option_or o (taken_out may_send (map waits ps))) out.taken;
    first = λ is calm. absurd (both_ways out.it.message.urgent (calm (and_parts (is_request out.it.message.kind) (eqb out.it.sent 0) is).0) (and_parts out.it.message.urgent (may_send (waits out.it)) out.passed).0);
  })
  go (inl none) (inr out) = inr (record {
    front = out.front;
    it = out.it;
    rear = out.rear;
    whole = out.whole;
    taken = ap (λ (o : Found). option_or o (taken_out may_send (map waits ps))) none ∙ out.taken;
    first = λ _ _. none_fresh out.front out.failed;
  })
  go (inl none) (inl also) = inl (ap (λ (o : Found). option_or o (taken_out may_send (map waits ps))) none ∙ also)

pub split_of : (ps : List Pending) (c : Choice ps) → Split (map waits ps) (waits c.it) (map waits (c.front ++ c.rear))
split_of ps c = record {
  front = map waits c.front;
  rear = map waits c.rear;
  whole = ap (map waits) c.whole ∙ map-append c.front (c.it ∷ c.rear);
  left = map-append c.front c.rear;
}

-- what goes back
abbrev pub goes_back : Pending → List Pending
goes_back p = cond (has_more (waits p)) (further p ∷ []) []

pub back_is : (p : Pending) → map waits (goes_back p) ≡ back (waits p)
back_is p = go (has_more (waits p)) where
  go : (b : Bool) → map waits (cond b (further p ∷ []) []) ≡ cond b (without_piece (waits p) ∷ []) []
  go true = ap (λ (w : Waiting). w ∷ []) (waits_further p)
  go false = refl

-- ---- the order of what is fresh

pub counts-append : (n : ℕ) (xs : List ℕ) → CountsFrom n xs → CountsFrom n (xs ++ (n + length xs) ∷ [])
counts-append n [] is = (omega arith, tt)
counts-append n (x ∷ xs) is =
    (is.0, subst (λ (m : ℕ). CountsFrom (n + 1) (xs ++ m ∷ [])) (let e : n + 1 + length xs ≡ n + length (x ∷ xs) = omega arith in e) (counts-append (n + 1) xs is.1))

back_stale : (p : Pending) → fresh (back (waits p)) ≡ []
back_stale p = go (has_more (waits p)) where
  zero_not : (r : Bool) → (r && eqb (p.sent + largest_written) 0) ≡ false
  zero_not true = ne_eqb (p.sent + largest_written) 0 (λ e. absurd (omega arith))
  zero_not false = refl

  go : (b : Bool) → fresh (cond b (without_piece (waits p) ∷ []) []) ≡ []
  go true = ap (λ (b : Bool). cond b (p.message.number ∷ []) []) (zero_not (is_request p.message.kind))
  go false = refl

-- what is fresh before and after
pub fresh_before : (ps : List Pending) (c : Choice ps) → fresh (map waits ps) ≡ fresh (map waits c.front) ++ cond (is_fresh (waits c.it)) (c.it.message.number ∷ fresh (map waits c.rear)) (fresh (map waits c.rear))
fresh_before ps c = ap fresh (ap (map waits) c.whole ∙ map-append c.front (c.it ∷ c.rear)) ∙ fresh-append (map waits c.front) (waits c.it ∷ map waits c.rear)

pub fresh_after : (ps : List Pending) (c : Choice ps) → fresh (map waits (c.front ++ c.rear) ++ back (waits c.it)) ≡ fresh (map waits c.front) ++ fresh (map waits c.rear)
fresh_after ps c =
    fresh-append (map waits (c.front ++ c.rear)) (back (waits c.it))
    ∙ ap (λ (ns : List ℕ). fresh (map waits (c.front ++ c.rear)) ++ ns) (back_stale c.it)
    ∙ append-nil (fresh (map waits (c.front ++ c.rear)))
    ∙ ap fresh (map-append c.front c.rear)
    ∙ fresh-append (map waits c.front) (map waits c.rear)
