-- Kinds, and the two classes of messages.
use Rattle.std.proofs.Common.{◌≡◌, ℕ, zero, suc, true, false, eqb, refl, sym, ap, ◌∙◌, ◌⊎◌, inl, inr}
use Rattle.std.specs.Prelude.{not}
use Rattle.std.proofs.lemmas.Bool.{eqb-true}
use Rattle.blip_frame.specs.Frame.{kind_number, has_checksum}
use Rattle.blip_frame.specs.declared.frame.Kind.{Kind}
use Rattle.blip_frame.specs.declared.frame.Kind.TheVariants as kinds
use Rattle.blip_mux.specs.Joining.{is_request, is_reply}
use Rattle.blip_mux.specs.inner.Class.{class_of}
use Rattle.blip_mux.specs.declared.class.Class.TheVariants as classes

-- the kind of a number
abbrev kind_of : ℕ → Kind
kind_of zero = kinds.Msg
kind_of (suc zero) = kinds.Rpy
kind_of (suc (suc zero)) = kinds.Err
kind_of (suc (suc (suc zero))) = kinds.AckMsg
kind_of (suc (suc (suc (suc zero)))) = kinds.AckMsg
kind_of (suc (suc (suc (suc (suc n))))) = kinds.AckRpy

numbered : (k : Kind) → kind_of (kind_number k) ≡ k
numbered kinds.Msg = refl
numbered kinds.Rpy = refl
numbered kinds.Err = refl
numbered kinds.AckMsg = refl
numbered kinds.AckRpy = refl

pub same_kind : (a b : Kind) → eqb (kind_number a) (kind_number b) ≡ true → a ≡ b
same_kind a b e = sym (numbered a) ∙ ap kind_of (eqb-true (kind_number a) (kind_number b) e) ∙ numbered b

-- an acknowledgement is no frame of a message
pub no_request : (k : Kind) → has_checksum k ≡ false → is_request k ≡ false
no_request kinds.Msg e = absurd cc
no_request kinds.Rpy e = refl
no_request kinds.Err e = refl
no_request kinds.AckMsg e = refl
no_request kinds.AckRpy e = refl

pub no_reply : (k : Kind) → has_checksum k ≡ false → is_reply k ≡ false
no_reply kinds.Msg e = refl
no_reply kinds.Rpy e = absurd cc
no_reply kinds.Err e = absurd cc
no_reply kinds.AckMsg e = refl
no_reply kinds.AckRpy e = refl

-- a message is a request or a reply
pub other_class : (k : Kind) → has_checksum k ≡ true → is_reply k ≡ not (is_request k)
other_class kinds.Msg e = refl
other_class kinds.Rpy e = refl
other_class kinds.Err e = refl
other_class kinds.AckMsg e = absurd cc
other_class kinds.AckRpy e = absurd cc

-- the class of a message's kind
pub of_class : (k : Kind) → has_checksum k ≡ true → (class_of k ≡ classes.Request) × (is_request k ≡ true) × (is_reply k ≡ false) ⊎ (class_of k ≡ classes.Reply) × (is_request k ≡ false) × (is_reply k ≡ true)
of_class kinds.Msg e = inl (refl, refl, refl)
of_class kinds.Rpy e = inr (refl, refl, refl)
of_class kinds.Err e = inr (refl, refl, refl)
of_class kinds.AckMsg e = absurd cc
of_class kinds.AckRpy e = absurd cc
