-- The kinds of acknowledgements.
use Rattle.std.proofs.Common.{◌≡◌, ℕ, ◌+◌, ◌-◌, Bool, true, false, ◌&&◌, ◌++◌, Option, Some, None, Result, Ok, Err, refl, subst, if◌then◌else◌, length, nat_le, ltb}
use Rattle.blip_frame.specs.Frame.{FrameParts, has_checksum}
use Rattle.blip_frame.specs.Varint.{number_at}
use Rattle.blip_frame.specs.declared.frame.Kind.{Kind}
use Rattle.blip_frame.specs.declared.frame.Kind.TheVariants as kinds
use Rattle.blip_mux.specs.declared.message.Message.{Message}
use Rattle.blip_mux.specs.declared.inbox.Taken.{Taken}
use Rattle.blip_mux.specs.declared.inbox.Taken.TheVariants as takens
use Rattle.blip_mux.specs.declared.inbox.TakeFault.{TakeFault}
use Rattle.blip_mux.specs.declared.inbox.TakeFault.TheVariants as faults
use Rattle.blip_mux.specs.Begun.{Begun}
use Rattle.blip_mux.specs.Joining.{begun_or, with_frame, longest_message, most_held, held_by, may_come, given_by, within, part_by, message_by, whole, answer_to, acknowledged, acknowledges, acknowledge_after, count_in}

-- the kind of the acknowledgement that has come or is owed, where one was
abbrev ack_kind_of : Result Taken TakeFault → Option Kind
ack_kind_of (Ok takens.Nothing) = None
ack_kind_of (Ok (takens.Ack kind number bytes)) = Some kind
ack_kind_of (Ok (takens.Owed kind number bytes)) = Some kind
ack_kind_of (Ok (takens.Whole message)) = None
ack_kind_of (Err fault) = None

-- it is an acknowledgement's
abbrev IsAckKind : Option Kind → Type 0
IsAckKind None = Unit {0}
IsAckKind (Some kind) = has_checksum kind ≡ false

acknowledges_kind : (k : Kind) → has_checksum (acknowledges k) ≡ false
acknowledges_kind kinds.Msg = refl
acknowledges_kind kinds.Rpy = refl
acknowledges_kind kinds.Err = refl
acknowledges_kind kinds.AckMsg = refl
acknowledges_kind kinds.AckRpy = refl

whole_kind : (r : Result Message TakeFault) → IsAckKind (ack_kind_of (whole r))
whole_kind (Ok message) = tt
whole_kind (Err fault) = tt

given_kind : (b : Begun) (f : FrameParts) → IsAckKind (ack_kind_of (given_by b f))
given_kind b f =
    elim f.more as (λ more. IsAckKind (ack_kind_of (if more then Ok (part_by b f) else whole (message_by b f)))) [
      | true ↦ elim (nat_le acknowledge_after (b.unacknowledged + length f.payload)) as (λ t. IsAckKind (ack_kind_of (Ok (if t then takens.Owed (acknowledges f.kind) f.number (length (b.bytes ++ f.payload)) else takens.Nothing))))
          [ true ↦ acknowledges_kind f.kind | false ↦ tt ]
      | false ↦ whole_kind (message_by b f)
    ]

ack_kind : (f : FrameParts) (o : Option ℕ) → has_checksum f.kind ≡ false → IsAckKind (ack_kind_of (acknowledged f o))
ack_kind f None e = tt
ack_kind f (Some bytes) e = e

within_kind : (held : ℕ) (o : Option Begun) (f : FrameParts) → IsAckKind (ack_kind_of (within held o f))
within_kind held o f =
    elim (ltb longest_message (length ((begun_or o f).bytes ++ f.payload))) as (λ long. IsAckKind (ack_kind_of (if long then Err (faults.TooLong f.number)
    else (if f.more && ltb most_held (held - held_by o + held_by (Some (with_frame (begun_or o f) f))) then Err (faults.Full f.number) else given_by (begun_or o f) f)))) [
      | true ↦ tt
      | false ↦ elim (f.more && ltb most_held (held - held_by o + held_by (Some (with_frame (begun_or o f) f)))) as (λ full. IsAckKind (ack_kind_of (if full then Err (faults.Full f.number) else given_by (begun_or o f) f)))
          [ true ↦ tt | false ↦ given_kind (begun_or o f) f ]
    ]

answer_kind : (requests : ℕ) (awaited : Bool) (held : ℕ) (o : Option Begun) (f : FrameParts) → IsAckKind (ack_kind_of (answer_to requests awaited held o f))
answer_kind requests awaited held o f =
    (elim (has_checksum f.kind) as (λ b. has_checksum f.kind ≡ b → IsAckKind (ack_kind_of (if b then (if may_come requests awaited o f then within held o f else Err (faults.OutOfOrder f.number)) else acknowledged f (count_in (number_at f.payload))))) [
      | true ↦ λ is. elim (may_come requests awaited o f) as (λ b. IsAckKind (ack_kind_of (if b then within held o f else Err (faults.OutOfOrder f.number)))) [ true ↦ within_kind held o f | false ↦ tt ]
      | false ↦ λ is. ack_kind f (count_in (number_at f.payload)) is
    ]) refl

pub acked_kind : (requests : ℕ) (awaited : Bool) (held : ℕ) (o : Option Begun) (f : FrameParts) (kind : Kind) (number bytes : ℕ) → answer_to requests awaited held o f ≡ Ok (takens.Ack kind number bytes) → has_checksum kind ≡ false
acked_kind requests awaited held o f kind number bytes e = subst (λ r. IsAckKind (ack_kind_of r)) e (answer_kind requests awaited held o f)

pub owed_kind : (requests : ℕ) (awaited : Bool) (held : ℕ) (o : Option Begun) (f : FrameParts) (kind : Kind) (number bytes : ℕ) → answer_to requests awaited held o f ≡ Ok (takens.Owed kind number bytes) → has_checksum kind ≡ false
owed_kind requests awaited held o f kind number bytes e = subst (λ r. IsAckKind (ack_kind_of r)) e (answer_kind requests awaited held o f)
