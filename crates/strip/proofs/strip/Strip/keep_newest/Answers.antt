use Rattle.strip.specs.Ring.{ring_of}
use Rattle.strip.proofs.Contents.{contents_keep}
use Rattle.strip.proofs.strip.Strip.keep_newest.Goals as goal

pub returns-clause-listed : goal.returns-clause-listed
returns-clause-listed g c =
    let self = c.args.self.now in
    rw c.min-self.ensures (contents_keep (ring_of self) self.fits self.some c.args.count)
