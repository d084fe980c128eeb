-- texts that were put at the end of others
use Rattle.std.proofs.Common.{◌≡◌, ℕ, zero, suc, ◌+◌, ◌<◌, List, [], ◌∷◌, ◌++◌, length, get_or, take, refl, sym, ap, ◌∙◌, subst, arith, append_assoc, OnOk, OnErr}
use Rattle.std.specs.Prelude.{Result, Ok, Err}
use Rattle.std.specs.List.{join_with_byte}
use Rattle.std.proofs.lemmas.List.{append-nil}
use Rattle.sg_history.specs.declared.entries.Mark.{Mark}
use Rattle.sg_names.specs.Channels.{channels_text}
use Rattle.sg_names.specs.Grants.{grants_text}
use Rattle.sg_names.specs.Hex.{hex_text}
use Rattle.sg_names.specs.RevId.{rev_text}
use Rattle.sg_names.specs.RoleGrants.{role_grants_text}
use Rattle.sg_history.specs.declared.entries.Entry.TheVariants as entry
use Rattle.sg_history.specs.Journal.{line_of, marks_fields}
use Rattle.sg_history.specs.Line.{BeginsWith, behind_tabs}
use Rattle.sg_history.proofs.FaultLemmas.{fields_more}

front_kept : (before more after : List ℕ) → take (length (before ++ more)) after ≡ before ++ more → take (length before) after ≡ before
front_kept [] more after kept = refl
front_kept (b ∷ bs) more [] kept = absurd (cc (kept))
front_kept (b ∷ bs) more (a ∷ others) kept =
    let rest : take (length (bs ++ more)) others ≡ bs ++ more = cc in
    let first : a ≡ b = cc in
    λ i. first i ∷ front_kept bs more others rest i

take_front : (xs ys : List ℕ) → take (length xs) (xs ++ ys) ≡ xs
take_front [] ys = refl
take_front (x ∷ xs) ys = ap (λ (l : List ℕ). x ∷ l) (take_front xs ys)

-- what was put behind a first text
pub both_put : {T E : Type 0} (r : Result T E) (before middle after first further : List ℕ) → middle ≡ before ++ first
    → OnOk r (after ≡ middle ++ further) → OnOk r (after ≡ before ++ (first ++ further))
both_put (Ok x) before middle after first further e h = h ∙ ap (λ m. m ++ further) e ∙ append_assoc before first further
both_put (Err x) before middle after first further e h = tt

pub both_kept : {T E : Type 0} (r : Result T E) (before middle after first : List ℕ) → middle ≡ before ++ first
    → OnErr r (take (length middle) after ≡ middle) → OnErr r (take (length before) after ≡ before)
both_kept (Ok x) before middle after first e h = tt
both_kept (Err x) before middle after first e h = front_kept before first after (ap (λ m. take (length m) after) (sym e) ∙ h ∙ e)

-- what was put behind a text keeps it
pub kept_behind : (before more after : List ℕ) → after ≡ before ++ more → BeginsWith before after
kept_behind before more after is = ap (take (length before)) is ∙ take_front before more

-- what begins with a text that was put behind another begins with that
pub kept_again : (before middle after more : List ℕ) → middle ≡ before ++ more → BeginsWith middle after → BeginsWith before after
kept_again before middle after more is kept = front_kept before more after (subst (λ (m : List ℕ). BeginsWith m after) is kept)

behind_append : (fs gs : List (List ℕ)) → behind_tabs (fs ++ gs) ≡ behind_tabs fs ++ behind_tabs gs
behind_append [] gs = refl
behind_append (f ∷ fs) gs = ap (λ (l : List ℕ). 9 ∷ f ++ l) (behind_append fs gs) ∙ sym (ap (λ (l : List ℕ). 9 ∷ l) (append_assoc f (behind_tabs fs) (behind_tabs gs)))

-- fields joined by TABs
pub joined_behind : (f : List ℕ) (fs : List (List ℕ)) → join_with_byte 9 (f ∷ fs) ≡ f ++ behind_tabs fs
joined_behind f [] = sym (append-nil f)
joined_behind f (g ∷ fs) = ap (λ (l : List ℕ). f ++ 9 ∷ l) (joined_behind g fs)

marks_behind : (ms : List Mark) (mark : Mark) → behind_tabs (marks_fields (ms ++ mark ∷ [])) ≡ behind_tabs (marks_fields ms) ++ behind_tabs (marks_fields (mark ∷ []))
marks_behind ms mark = ap behind_tabs (fields_more ms mark) ∙ behind_append (marks_fields ms) (marks_fields (mark ∷ []))

-- the fields of one mark more were put
pub mark_put : (before middle after : List ℕ) (ms more : List Mark) (mark : Mark) → middle ≡ before ++ behind_tabs (marks_fields ms)
    → after ≡ middle ++ behind_tabs (marks_fields (mark ∷ [])) → more ≡ ms ++ mark ∷ [] → after ≡ before ++ behind_tabs (marks_fields more)
mark_put before middle after ms more mark so_far put is =
    put ∙ ap (λ (m : List ℕ). m ++ behind_tabs (marks_fields (mark ∷ []))) so_far
    ∙ append_assoc before (behind_tabs (marks_fields ms)) (behind_tabs (marks_fields (mark ∷ [])))
    ∙ ap (λ (l : List ℕ). before ++ l) (sym (marks_behind ms mark))
    ∙ ap (λ (l : List Mark). before ++ behind_tabs (marks_fields l)) (sym is)

-- an error leaves what began so
pub on_err : {T E : Type 0} (r : Result T E) (before after : List ℕ) → BeginsWith before after → OnErr r (BeginsWith before after)
on_err (Ok x) before after h = tt
on_err (Err x) before after h = h

-- an error left what was put behind a first text
pub err_behind : {T E : Type 0} (r : Result T E) (before middle after more : List ℕ) → middle ≡ before ++ more → OnErr r (after ≡ middle)
    → OnErr r (BeginsWith before after)
err_behind (Ok x) before middle after more is left = tt
err_behind (Err x) before middle after more is left = kept_behind before more after (left ∙ is)

mark_text : (doc rev c g r : List ℕ) → (9 ∷ (doc ++ (9 ∷ rev))) ++ (9 ∷ (c ++ (9 ∷ (g ++ (9 ∷ r))))) ≡ behind_tabs (doc ∷ rev ∷ c ∷ g ∷ r ∷ [])
mark_text doc rev c g r =
    ap (λ (l : List ℕ). 9 ∷ l) (append_assoc doc (9 ∷ rev) (9 ∷ (c ++ (9 ∷ (g ++ (9 ∷ r))))))
    ∙ ap (λ (l : List ℕ). 9 ∷ (doc ++ (9 ∷ (rev ++ (9 ∷ (c ++ (9 ∷ (g ++ (9 ∷ l))))))))) (sym (append-nil r))

-- the fields of a mark were put
pub mark_whole : {T E : Type 0} (r : Result T E) (before middle after : List ℕ) (mark : Mark) → middle ≡ before ++ (9 ∷ (mark.doc ++ (9 ∷ rev_text mark.rev)))
    → OnOk r (after ≡ middle ++ (((9 ∷ channels_text mark.channels) ++ (9 ∷ grants_text mark.grants)) ++ (9 ∷ role_grants_text mark.roles)))
    → OnOk r (after ≡ before ++ behind_tabs (marks_fields (mark ∷ [])))
mark_whole r before middle after mark is put =
    let text = mark_text mark.doc (rev_text mark.rev) (channels_text mark.channels) (grants_text mark.grants) (role_grants_text mark.roles) in
    let all =
    subst (λ (l : List ℕ). OnOk r (after ≡ middle ++ l))
    (append_assoc (9 ∷ channels_text mark.channels) (9 ∷ grants_text mark.grants) (9 ∷ role_grants_text mark.roles)) put
    in
    subst (λ (l : List ℕ). OnOk r (after ≡ before ++ l)) text
    (both_put r before middle after (9 ∷ (mark.doc ++ (9 ∷ rev_text mark.rev)))
    (9 ∷ (channels_text mark.channels ++ (9 ∷ (grants_text mark.grants ++ (9 ∷ role_grants_text mark.roles))))) is all)

-- a replacement of the sync function was put
pub sync_put : {T E : Type 0} (r : Result T E) (before middle after text : List ℕ) (marks : List Mark) → middle ≡ before ++ (83 ∷ 9 ∷ hex_text text)
    → OnOk r (after ≡ middle ++ behind_tabs (marks_fields marks)) → OnOk r (after ≡ before ++ line_of (entry.Sync text marks))
sync_put r before middle after text marks is put =
    subst (λ (l : List ℕ). OnOk r (after ≡ before ++ l)) (ap (λ (l : List ℕ). 83 ∷ 9 ∷ l) (sym (joined_behind (hex_text text) (marks_fields marks))))
    (both_put r before middle after (83 ∷ 9 ∷ hex_text text) (behind_tabs (marks_fields marks)) is put)

-- one item more is taken
pub taken : {X : Type 0} (xs : List X) (i : ℕ) (x : X) → i < length xs → x ≡ get_or xs i x → take (i + 1) xs ≡ take i xs ++ x ∷ []
taken [] i x inside is = absurd (omega (arith, inside))
taken (y ∷ ys) zero x inside is = λ k. sym is k ∷ []
taken (y ∷ ys) (suc i) x inside is =
    let next : suc i + 1 ≡ suc (i + 1) = omega arith in
    ap (λ (n : ℕ). take n (y ∷ ys)) next ∙ ap (λ l. y ∷ l) (taken ys i x (omega (arith, inside)) is)
