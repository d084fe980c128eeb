use Rattle.std.proofs.Common.{refl}
use Rattle.seq_gate.proofs.Keeping.{to_draw, to_draw_in_turn, to_ticket, to_look, to_raise, to_pass, to_front, to_share}
use Rattle.seq_gate.proofs.Passing.{to_split, to_join, to_open, to_close}
use Rattle.seq_gate.proofs.laws.rule.Goals as goal

pub returns : goal.returns
returns g c =
    let seen = g.B.Kept.seen in
    record {
      opens = λ board pending rooms short. to_open c.boards.ensures.itself seen board (seen board) refl pending rooms short;
      keeps = λ o slots id.
          record {
            draw = to_draw seen o slots id;
            draw_in_turn = to_draw_in_turn seen o slots id;
            take_ticket = to_ticket seen o slots id;
            look = to_look seen o slots id;
            raise = to_raise seen o slots id c.boards.ensures.itself c.boards.ensures.again;
            pass = to_pass seen o slots id;
            load_front = to_front seen o slots id;
            load_share = to_share seen o slots id;
            split = to_split seen o id;
            join = λ other. to_join seen o id other;
          };
      closes = to_close seen;
    }
