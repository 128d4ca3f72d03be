use Rattle.std.proofs.Common.{◌≡◌, map, take}
use Rattle.waff_list.specs.Issuing.{served_at}
use Rattle.waff_list.proofs.issued.Issued.join.Given as goal

abbrev pub invariant-loop-place : goal.invariant-loop-place
invariant-loop-place l = record {
  messages : l.self.1.1.1.1.0 ≡ l.initial.self.1.1.1.1.0;
  joining : l.self.1.1.1.0 ≡ l.initial.self.1.1.1.0;
  needs : l.self.1.1.1.1.1.0.items ≡ map (served_at l.initial.self.1.1.1.1.0.items) (take l.place-index l.place-items);
}
