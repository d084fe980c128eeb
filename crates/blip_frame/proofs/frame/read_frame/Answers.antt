use Rattle.std.proofs.Common.{◌≡◌, ℕ, List, ◌<◌, ◌^◌, Result, Ok, Err, sym, ap, ◌∙◌, arith}
use Rattle.blip_frame.specs.Frame.{FrameParts, parts_of, value_after, frame_at, IsFrameFrom}
use Rattle.blip_frame.specs.declared.frame.FrameFault.{FrameFault}
use Rattle.blip_frame.proofs.Frames.{frame_taken, frame_again, frame_from, frame_sent, value_after-checksum}
use Rattle.blip_frame.proofs.frame.read_frame.Goals as goal

pub returns-in-Ok-clause-found : goal.returns-in-Ok-clause-found
returns-in-Ok-clause-found c = (frame_taken c.args.crc.now.value c.args.bytes.now (parts_of c.in-Ok.frame) c.in-Ok.after.value (λ i. omega (arith, c.type_inv.bytes i)) c.in-Ok.ensures).0

pub returns-in-Ok-clause-value : goal.returns-in-Ok-clause-value
returns-in-Ok-clause-value c = (frame_taken c.args.crc.now.value c.args.bytes.now (parts_of c.in-Ok.frame) c.in-Ok.after.value (λ i. omega (arith, c.type_inv.bytes i)) c.in-Ok.ensures).1

pub returns-in-Ok-clause-sent : goal.returns-in-Ok-clause-sent
returns-in-Ok-clause-sent c = λ sent e.
    let f = parts_of c.in-Ok.frame in
    let t = frame_taken c.args.crc.now.value c.args.bytes.now f c.in-Ok.after.value (λ i. omega (arith, c.type_inv.bytes i)) c.in-Ok.ensures in
    (frame_from sent c.args.crc.now.value c.args.bytes.now f e t.0, t.1 ∙ ap (λ (v : ℕ). value_after v f) e ∙ value_after-checksum sent f)

is_only : (value : ℕ) (bytes : List ℕ) (f g : FrameParts) (after : ℕ) → value < 2 ^ 32 → frame_at value bytes ≡ Ok (g, after) → IsFrameFrom value bytes f → g ≡ f
is_only value bytes f g after fits e is =
    let q : ◌≡◌ {A = Result (FrameParts × ℕ) FrameFault} (Ok (g, after)) (Ok (f, value_after value f)) = sym e ∙ frame_again value bytes f fits is in
    let p : ◌≡◌ {A = FrameParts × ℕ} (g, after) (f, value_after value f) = cc in
    ap (λ (w : FrameParts × ℕ). w.0) p

is_none : (value : ℕ) (bytes : List ℕ) (f : FrameParts) (fault : FrameFault) → value < 2 ^ 32 → frame_at value bytes ≡ Err fault → IsFrameFrom value bytes f → ⊥
is_none value bytes f fault fits e is =
    let q : ◌≡◌ {A = Result (FrameParts × ℕ) FrameFault} (Err fault) (Ok (f, value_after value f)) = sym e ∙ frame_again value bytes f fits is in
    absurd cc

pub returns-in-Ok-clause-only : goal.returns-in-Ok-clause-only
returns-in-Ok-clause-only c = λ f is. is_only c.args.crc.now.value c.args.bytes.now f (parts_of c.in-Ok.frame) c.in-Ok.after.value (omega arith) c.in-Ok.ensures is

pub returns-in-Ok-clause-sent_only : goal.returns-in-Ok-clause-sent_only
returns-in-Ok-clause-sent_only c = λ sent f e is.
    is_only c.args.crc.now.value c.args.bytes.now f (parts_of c.in-Ok.frame) c.in-Ok.after.value (omega arith) c.in-Ok.ensures (frame_sent sent c.args.crc.now.value c.args.bytes.now f e is)

pub returns-in-Err-clause-only : goal.returns-in-Err-clause-only
returns-in-Err-clause-only c = λ f is. is_none c.args.crc.now.value c.args.bytes.now f c.in-Err.fault (omega arith) c.in-Err.ensures is

pub returns-in-Err-clause-sent_only : goal.returns-in-Err-clause-sent_only
returns-in-Err-clause-sent_only c = λ sent f e is.
    is_none c.args.crc.now.value c.args.bytes.now f c.in-Err.fault (omega arith) c.in-Err.ensures (frame_sent sent c.args.crc.now.value c.args.bytes.now f e is)
