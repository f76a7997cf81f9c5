-- Where all parts have room the numbers are the ones that are checked.
use Rattle.std.proofs.Common.{◌≡◌, Result, Ok, sym, ◌∙◌, subst}
use Rattle.fs_quadratic.specs.declared.steps.Place.{Place}
use Rattle.fs_gluing.specs.Exchanges.{Letter}
use Rattle.fs_rauzy.specs.Rule.{WonNumbers, checked_won}
use Rattle.fs_rauzy.proofs.SumsInRoom.{won_in_room}
use Rattle.fs_rauzy.proofs.numbers.find_won.Goals as goal

pub returns-then-vector_has_room-3 : goal.returns-then-vector_has_room-3
returns-then-vector_has_room-3 c =
    let winner : Letter = record { name = c.winner.inside.name; length = c.winner.inside.length; back = c.winner.inside.back; corner = c.winner.inside.corner; start = c.winner.inside.start; end = c.winner.inside.end } in
    let loser : Letter = record { name = c.loser.inside.name; length = c.loser.inside.length; back = c.loser.inside.back; corner = c.loser.inside.corner; start = c.loser.inside.start; end = c.loser.inside.end } in
    let numbers : Result WonNumbers Place = Ok (record {
      length = c.difference_in_room.result;
      total = c.difference_in_room-then-vector_has_room-3.result;
      back = c.sum_in_room.result;
      vector = c.sum_in_room-then-vector_has_room-3.result;
    }) in
    subst (λ (w : Letter). numbers ≡ checked_won w c.args.loser.now c.args.total c.args.vector) c.winner.view_is
    (subst (λ (l : Letter). numbers ≡ checked_won winner l c.args.total c.args.vector) c.loser.view_is
    ((λ i. Ok (record {
      length = c.difference_in_room.ensures i;
      total = c.difference_in_room-then-vector_has_room-3.ensures i;
      back = c.sum_in_room.ensures i;
      vector = c.sum_in_room-then-vector_has_room-3.ensures i;
    }))
    ∙ sym (won_in_room winner loser c.args.total c.args.vector (c.has_room.ensures c.if-has_room.true) (c.has_room-then-has_room.ensures c.if-has_room-2.true)
    (c.has_room-then-has_room-2.ensures c.if-has_room-3.true) (c.vector_has_room.ensures c.if-vector_has_room.true) (c.vector_has_room-then-vector_has_room.ensures c.if-vector_has_room-2.true)
    (c.vector_has_room-then-vector_has_room-2.ensures c.if-vector_has_room-3.true))))
