-- `plain::chips::any_listens` meets its contract. Assumes nothing.
use Rattle.std.proofs.Common.{◌≡◌, ◌∙◌, ap, Bool, [], take, rules, tests, arith}
use Rattle.std.specs.List.{list_any}
use Rattle.std.proofs.lemmas.Grind.{common_steps}
use Rattle.std.proofs.lemmas.Iterator.{YieldsList-from_slice}
use Rattle.std.proofs.lemmas.Iterator.Search.{any_from_yields_List}
use Rattle.board.specs.declared.Seat.{Seat}
use Rattle.plain.specs.Plain.{listens}
use Rattle.plain.specs.Inside.{cell_at}
use Rattle.plain.proofs.Cells.{any_of_them}
use Rattle.plain.proofs.chips.any_listens.Goals as goal

pub returns : goal.returns
returns c m =
    let test : Seat → Bool = λ x. listens c.args.call.address c.args.call.tick (cell_at x []) in
    let xs = c.iter.result.rest.now in
    let among : xs ≡ take c.args.chips.count c.args.chips.seats = grind (arith, common_steps) in
    any_from_yields_List test _ _ _ c.any.ensures.ran (YieldsList-from_slice xs cc) (λ x b q k. search (rules, tests)) ∙ ap (list_any test) among
    ∙ any_of_them _ _ _ _ m
