use Rattle.std.proofs.Common.{rules}
use Rattle.replay.proofs.Chains.{same_call}
use Rattle.replay.proofs.serve.serve.Goals as goal

pub returns-in_ok-arm-in-Arm-clause-keeps : goal.returns-in_ok-arm-in-Arm-clause-keeps
returns-in_ok-arm-in-Arm-clause-keeps g c = same_call c.in-Arm.is (search rules) (c.arm.ensures _ _)

pub returns-in_err-arm-in-Arm-clause-keeps : goal.returns-in_err-arm-in-Arm-clause-keeps
returns-in_err-arm-in-Arm-clause-keeps g c = same_call c.in-Arm.is (search rules) (c.arm.ensures _ _)

pub returns-in_ok-draw-in-Draw-clause-keeps : goal.returns-in_ok-draw-in-Draw-clause-keeps
returns-in_ok-draw-in-Draw-clause-keeps g c = same_call c.in-Draw.is (search rules) (c.draw.ensures.call _)

pub returns-in_err-draw-in-Draw-clause-keeps : goal.returns-in_err-draw-in-Draw-clause-keeps
returns-in_err-draw-in-Draw-clause-keeps g c = same_call c.in-Draw.is (search rules) (c.draw.ensures.call _)

pub returns-in_ok-look-in-Look-clause-keeps : goal.returns-in_ok-look-in-Look-clause-keeps
returns-in_ok-look-in-Look-clause-keeps g c = same_call c.in-Look.is (search rules) (c.look.ensures _ _)

pub returns-in_err-look-in-Look-clause-keeps : goal.returns-in_err-look-in-Look-clause-keeps
returns-in_err-look-in-Look-clause-keeps g c = same_call c.in-Look.is (search rules) (c.look.ensures _ _)

pub returns-in_ok-alarm-in-Alarm-clause-keeps : goal.returns-in_ok-alarm-in-Alarm-clause-keeps
returns-in_ok-alarm-in-Alarm-clause-keeps g c = same_call c.in-Alarm.is (search rules) (c.alarm.ensures _ _)

pub returns-in_err-alarm-in-Alarm-clause-keeps : goal.returns-in_err-alarm-in-Alarm-clause-keeps
returns-in_err-alarm-in-Alarm-clause-keeps g c = same_call c.in-Alarm.is (search rules) (c.alarm.ensures _ _)

pub returns-in_ok-take-in-Take-clause-keeps : goal.returns-in_ok-take-in-Take-clause-keeps
returns-in_ok-take-in-Take-clause-keeps g c = same_call c.in-Take.is (search rules) (c.take.ensures.call _)

pub returns-in_err-take-in-Take-clause-keeps : goal.returns-in_err-take-in-Take-clause-keeps
returns-in_err-take-in-Take-clause-keeps g c = same_call c.in-Take.is (search rules) (c.take.ensures.call _)

pub returns-in_ok-pull-in-Pull-clause-keeps : goal.returns-in_ok-pull-in-Pull-clause-keeps
returns-in_ok-pull-in-Pull-clause-keeps g c = same_call c.in-Pull.is (search rules) (c.pull.ensures.call _ _ _)

pub returns-in_err-pull-in-Pull-clause-keeps : goal.returns-in_err-pull-in-Pull-clause-keeps
returns-in_err-pull-in-Pull-clause-keeps g c = same_call c.in-Pull.is (search rules) (c.pull.ensures.call _ _ _)
