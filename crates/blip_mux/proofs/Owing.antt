-- When acknowledgements are owed.
use Rattle.std.proofs.Common.{◌≡◌, ℕ, ◌+◌, Bool, true, false, cond, leb, List, [], ◌∷◌, ◌++◌, length, Some, None, refl, sym, ap, ◌∙◌, arith}
use Rattle.std.specs.Prelude.{Option}
use Rattle.std.proofs.lemmas.List.{length-append}
use Rattle.blip_frame.specs.Frame.{FrameParts}
use Rattle.blip_frame.specs.declared.frame.Kind.{Kind}
use Rattle.blip_mux.specs.declared.inbox.Taken.TheVariants as takens
use Rattle.blip_mux.specs.Begun.{Begun}
use Rattle.blip_mux.specs.Joining.{begun_or, brought_by, acknowledges, acknowledge_after, once_owed}
use Rattle.blip_mux.specs.Owing.{bytes_in, answer_after, owes, NoneOwed}

-- how many bytes are not acknowledged of what came
abbrev unacknowledged : Option Begun → ℕ
unacknowledged None = 0
unacknowledged (Some b) = b.unacknowledged

count_or : (o : Option Begun) (f : FrameParts) → (begun_or o f).unacknowledged ≡ unacknowledged o
count_or None f = refl
count_or (Some b) f = refl

owes_if : (b : Bool) (kind : Kind) (number bytes : ℕ) → owes (cond b (takens.Owed kind number bytes) takens.Nothing) ≡ b
owes_if true kind number bytes = refl
owes_if false kind number bytes = refl

owes_at : (before : List FrameParts) (f : FrameParts) → owes (answer_after before f) ≡ leb acknowledge_after (unacknowledged (brought_by before) + length f.payload)
owes_at before f =
    owes_if (leb acknowledge_after ((begun_or (brought_by before) f).unacknowledged + length f.payload)) (acknowledges f.kind) f.number (length ((begun_or (brought_by before) f).bytes ++ f.payload))
    ∙ ap (λ (n : ℕ). leb acknowledge_after (n + length f.payload)) (count_or (brought_by before) f)

counted : (before : List FrameParts) (f : FrameParts) → unacknowledged (brought_by (f ∷ before)) ≡ cond (owes (answer_after before f)) 0 (unacknowledged (brought_by before) + length f.payload)
counted before f =
    ap (λ (n : ℕ). once_owed (n + length f.payload)) (count_or (brought_by before) f)
    ∙ ap (λ (b : Bool). cond b 0 (unacknowledged (brought_by before) + length f.payload)) (sym (owes_at before f))

-- since an acknowledgement that was owed all bytes are counted
since : (before between : List FrameParts) → unacknowledged (brought_by before) ≡ 0 → NoneOwed before between → unacknowledged (brought_by (between ++ before)) ≡ bytes_in between
since before [] none owed = none
since before (f ∷ between) none owed =
    counted (between ++ before) f
    ∙ ap (λ (b : Bool). cond b 0 (unacknowledged (brought_by (between ++ before)) + length f.payload)) owed.0
    ∙ omega (arith, since before between none owed.1)

owed_since : (before between : List FrameParts) (f : FrameParts) → unacknowledged (brought_by before) ≡ 0 → NoneOwed before between → owes (answer_after (between ++ before) f) ≡ leb acknowledge_after (bytes_in (f ∷ between))
owed_since before between f none owed =
    owes_at (between ++ before) f ∙ ap (leb acknowledge_after) (let e : unacknowledged (brought_by (between ++ before)) + length f.payload ≡ bytes_in (f ∷ between) = omega (arith, since before between none owed) in e)

nothing_before : (between : List FrameParts) → between ++ [] ≡ between
nothing_before [] = refl
nothing_before (f ∷ between) = ap (λ (fs : List FrameParts). f ∷ fs) (nothing_before between)

pub owed_first : (between : List FrameParts) (f : FrameParts) → NoneOwed [] between → owes (answer_after between f) ≡ leb acknowledge_after (bytes_in (f ∷ between))
owed_first between f owed = ap (λ (fs : List FrameParts). owes (answer_after fs f)) (sym (nothing_before between)) ∙ owed_since [] between f refl owed

pub owed_next : (before between : List FrameParts) (last f : FrameParts) → owes (answer_after before last) ≡ true → NoneOwed (last ∷ before) between
    → owes (answer_after (between ++ last ∷ before) f) ≡ leb acknowledge_after (bytes_in (f ∷ between))
owed_next before between last f was owed =
    owed_since (last ∷ before) between f (counted before last ∙ ap (λ (b : Bool). cond b 0 (unacknowledged (brought_by before) + length last.payload)) was) owed

-- ---- how many bytes an acknowledgement counts

all_bytes : (before : List FrameParts) (f : FrameParts) → length (begun_or (brought_by before) f).bytes ≡ bytes_in before
all_bytes [] f = refl
all_bytes (g ∷ before) f = length-append (begun_or (brought_by before) g).bytes g.payload ∙ omega (arith, all_bytes before g)

count_if : (b : Bool) (k kind : Kind) (m number n bytes : ℕ) → cond b (takens.Owed k m n) takens.Nothing ≡ takens.Owed kind number bytes → n ≡ bytes
count_if true k kind m number n bytes e = cc
count_if false k kind m number n bytes e = absurd cc

pub owed_all : (before : List FrameParts) (f : FrameParts) (kind : Kind) (number bytes : ℕ) → answer_after before f ≡ takens.Owed kind number bytes → bytes ≡ bytes_in (f ∷ before)
owed_all before f kind number bytes e =
    let b = begun_or (brought_by before) f in
    let count_is = count_if (leb acknowledge_after (b.unacknowledged + length f.payload)) (acknowledges f.kind) kind f.number number (length (b.bytes ++ f.payload)) bytes e in
    omega (arith, count_is, length-append b.bytes f.payload, all_bytes before f)
