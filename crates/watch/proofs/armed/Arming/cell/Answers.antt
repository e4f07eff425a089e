use Rattle.std.proofs.Common.{ap, ◌∙◌}
use Rattle.evaluation.specs.Memory.{no_cell}
use Rattle.watch.specs.Cells.{cell_in}
use Rattle.watch.proofs.LastCells.{in_ring}
use Rattle.watch.proofs.armed.Arming.cell.Goals as goal

pub returns : goal.returns
returns c =
    c.at.ensures no_cell
    ∙ ap (λ ring. cell_in ring c.args.position) c.last_cells.ensures
    ∙ in_ring c.args.self.now.rule c.args.cells.now c.args.self.now.places c.requires c.args.position
