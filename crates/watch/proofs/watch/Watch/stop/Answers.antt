use Rattle.std.proofs.Common.{◌-◌, refl}
use Rattle.watch.proofs.watch.Watch.stop.Goals as goal

pub returns : goal.returns
returns g c = record {
  tally = refl;
  standing = λ strip cells tray coming w s i. record { accepted = s.accepted_is i; taken = s.taken_is i; untaken = s.accepted_is i - s.taken_is i };
}
