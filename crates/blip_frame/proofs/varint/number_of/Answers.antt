use Rattle.std.proofs.Common.{◌≡◌, ◌+◌, ◌-◌, ◌<◌, ◌≤◌, get_or, length, drop, arith, ◌∙◌}
use Rattle.std.proofs.lemmas.List.{take_all, length-drop}
use Rattle.std.proofs.lemmas.Nat.{and_mask}
use Rattle.blip_frame.proofs.Varints.{too_many, last, goes_on, ended, value_fits, value_next, scale_next}
use Rattle.blip_frame.proofs.varint.number_of.Goals as goal
use Rattle.blip_frame.proofs.varint.number_of.Goals.{else-i-eq9-via-then-i-eq9+else-byte-gt1, else-i-eq9-via-else-i-eq9}

pub returns-then-byte-gt1 : goal.returns-then-byte-gt1
returns-then-byte-gt1 c = too_many c.loop-i.value c.loop-i.scale c.loop-i.i c.args.bytes.now c.loop-i.invariant.so_far (omega arith) (omega arith) (omega arith) c.loop-i.invariant.scale

pub returns-then-byte-lt128 : goal.returns-then-byte-lt128
returns-then-byte-lt128 c =
    let bytes = c.args.bytes.now in
    let i = c.loop-i.i in
    let byte = get_or bytes i 0 in
    let low : c.from.result ≡ byte = c.from.ensures ∙ and_mask byte 7 ∙ omega arith in
    let small : (i ≡ 9 → c.from.result ≤ 1) =
    elim c.else-i-eq9.branch [ else-i-eq9-via-then-i-eq9+else-byte-gt1 w ↦ λ _. omega arith | else-i-eq9-via-else-i-eq9 w ↦ λ e. absurd (w.if-i-eq9.false e) ] in
    let fits = value_fits c.loop-i.value c.loop-i.scale i c.from.result c.loop-i.invariant.within c.loop-i.invariant.scale c.loop-i.invariant.value (omega arith) small in
    rw (take_all (length bytes - (i + 1)) (drop (i + 1) bytes) (omega (arith, length-drop (i + 1) bytes)))
    (last c.loop-i.value c.loop-i.scale i bytes c.loop-i.invariant.so_far c.from.result c.loop-i.invariant.within c.loop-i-test.true c.if-byte-lt128.true low fits)

pub loop-i-preserved : goal.loop-i-preserved
loop-i-preserved c =
    let bytes = c.args.bytes.now in
    let i = c.loop-i.i in
    let byte = get_or bytes i 0 in
    let below : byte < 256 = omega (arith, c.type_inv.bytes i) in
    let low : c.from.result ≡ byte - 128 = c.from.ensures ∙ and_mask byte 7 ∙ omega arith in
    let within : i + 1 ≤ 9 =
    elim c.else-i-eq9.branch [ else-i-eq9-via-then-i-eq9+else-byte-gt1 w ↦ omega arith | else-i-eq9-via-else-i-eq9 w ↦ omega arith ] in
    record {
      within = within;
      scale = scale_next c.loop-i.scale i c.loop-i.invariant.scale;
      value = value_next c.loop-i.value c.loop-i.scale c.from.result c.loop-i.invariant.value (omega arith);
      so_far = goes_on c.loop-i.value c.loop-i.scale i bytes c.loop-i.invariant.so_far c.from.result c.loop-i.invariant.within c.loop-i-test.true c.if-byte-lt128.false low;
    }

pub returns : goal.returns
returns c = ended c.loop-i.value c.loop-i.scale c.loop-i.i c.args.bytes.now c.loop-i.invariant.so_far c.loop-i.invariant.within (omega arith)
