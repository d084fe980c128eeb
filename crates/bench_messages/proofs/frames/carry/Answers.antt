use Rattle.std.proofs.Common.{◌≡◌, ℕ, List, ◌++◌, ◌<◌, ◌^◌, sym, ap, subst, ◌∙◌, arith}
use Rattle.blip_frame.specs.Frame.{FrameParts, parts_of, IsFrame, IsFrameFrom, value_after, spelling}
use Rattle.bench_messages.proofs.frames.carry.Goals as goal

-- what lies in the buffer is the frame on the other side
arrives : (sent received : ℕ) (out bytes : List ℕ) (f : FrameParts) → received ≡ sent → out ≡ spelling (value_after sent f) f → bytes ≡ out → IsFrame (value_after sent f) (spelling (value_after sent f) f) f → IsFrameFrom received bytes f
arrives sent received out bytes f alike spelled same part =
    subst (λ (value : ℕ). IsFrame (value_after value f) bytes f) (sym alike) (subst (λ (bs : List ℕ). IsFrame (value_after sent f) bs f) (sym (same ∙ spelled)) part)

pub unreachable-requires : goal.unreachable-requires
unreachable-requires c =
    let f = parts_of c.args.frame.now in
    let value = value_after c.args.sent.now.value f in
    let number : f.number < 2 ^ 64 = omega arith in
    let part = c.frames.ensures.part value (spelling value f) f (c.frames.ensures.written value f number c.requires.size c.requires.marked) in
    let spelled = c.in_ok-write_frame.ensures.ok ∙ ap (λ (out : List ℕ). out ++ spelling value f) c.requires.empty in
    c.in-Err.ensures.only f (arrives c.args.sent.now.value c.args.received.now.value c.write_frame.new.out c.as_slice.result.now f c.requires.alike spelled c.as_slice.ensures part)

pub returns : goal.returns
returns c =
    let f = parts_of c.args.frame.now in
    let value = value_after c.args.sent.now.value f in
    let number : f.number < 2 ^ 64 = omega arith in
    let part = c.frames.ensures.part value (spelling value f) f (c.frames.ensures.written value f number c.requires.size c.requires.marked) in
    let spelled = c.in_ok-write_frame.ensures.ok ∙ ap (λ (out : List ℕ). out ++ spelling value f) c.requires.empty in
    let same = c.in-Ok.ensures.only f (arrives c.args.sent.now.value c.args.received.now.value c.write_frame.new.out c.as_slice.result.now f c.requires.alike spelled c.as_slice.ensures part) in
    record { alike = c.in-Ok.ensures.value ∙ ap (value_after c.args.received.now.value) same ∙ ap (λ (v : ℕ). value_after v f) c.requires.alike ∙ sym c.in_ok-write_frame.ensures.value }
