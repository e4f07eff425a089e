use Rattle.std.proofs.Common.{◌<◌, length, arith}
use Rattle.strip.specs.Ring.{ring_of}
use Rattle.strip.proofs.Contents.{contents_push}
use Rattle.strip.proofs.strip.Strip.push.Goals as goal

pub returns-clause-listed : goal.returns-clause-listed
returns-clause-listed g c =
    let self = c.args.self.now in
    let room : self.kept < length self.rows.now = omega arith in
    λ _. rw c.place-place.ensures (contents_push (ring_of self) room self.some c.stamp-stamp.result c.args.row)
