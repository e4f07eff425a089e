use Rattle.std.proofs.Common.{◌≡◌, ap, ◌∙◌, arith}
use Rattle.std.proofs.lemmas.Grind.{common_steps}
use Rattle.sample.specs.Rows.{clamped}
use Rattle.sample.specs.declared.row.SampleRow.{SampleRow}
use Rattle.sample.proofs.Same.{same_row}
use Rattle.sample.proofs.Within.{row_stays}
use Rattle.sample.proofs.sample.Sample.from_row.Goals as goal

pub returns : goal.returns
returns c =
    let clamps : ◌≡◌ {A = SampleRow} (record { stamp = c.nearest_stamp.result; codes = c.map.result }) (clamped c.args.row) = grind (arith, common_steps) in
    record {
      clamps = clamps;
      again = λ sample e. same_row _ sample (clamps ∙ ap clamped e ∙ row_stays sample.row (record { early = sample.early; within = sample.within }));
    }
