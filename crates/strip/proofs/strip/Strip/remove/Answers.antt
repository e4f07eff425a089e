use Rattle.std.proofs.Common.{◌≡◌, ◌<◌, [], get_or, rules}
use Rattle.strip.specs.Ring.{contents, oldest, place_of, ring_of}
use Rattle.strip.proofs.Contents.{contents_none, contents_remove}
use Rattle.strip.proofs.strip.Strip.remove.Goals as goal

pub returns-in_err-row-clause-listed : goal.returns-in_err-row-clause-listed
returns-in_err-row-clause-listed g c =
    let none : c.args.self.now.kept ≡ 0 = search rules in
    let e : contents (ring_of c.args.self.now) ≡ [] = contents_none (ring_of c.args.self.now) none in
    search rules

pub returns-clause-listed : goal.returns-clause-listed
returns-clause-listed g c =
    let self = c.args.self.now in
    let some : 0 < self.kept = search rules in
    let is : c.in_ok-row.row ≡ get_or self.rows.now (place_of (ring_of self) (oldest (ring_of self))) c.in_ok-row.row = search rules in
    contents_remove (ring_of self) some self.fits self.some c.in_ok-row.row is
