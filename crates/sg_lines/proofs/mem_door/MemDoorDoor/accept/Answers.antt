use Rattle.sg_lines.proofs.mem_door.MemDoorDoor.accept.Goals as goal

pub returns-in-Ok-Some-clause-next : goal.returns-in-Ok-Some-clause-next
returns-in-Ok-Some-clause-next c = (c.in-Ok-Some.line, rw c.in-Ok-Some.field-0-is at c.in-Ok-Some.ensures.next, c.renewed.ensures)
