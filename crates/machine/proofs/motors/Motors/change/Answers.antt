use Rattle.std.proofs.Common.{◌≡◌, ◌<◌, length, sym, refl, arith, rules}
use Rattle.std.proofs.lemmas.List.{get_or-map, map-set}
use Rattle.motor.specs.Motors.{fresh, view}
use Rattle.machine.proofs.motors.Motors.change.Goals as goal

pub returns : goal.returns
returns g c =
    let ms = c.args.self.now.records in
    let a = c.args.axis.number in
    let d = c.index-self-axis.result in
    let long : length ms ≡ 8 = search rules in
    let l : c.args.axis.number < length ms = omega arith in
    record {
      was = _;
      left = c.change.new.arg2;
      lent = record { shown = _; shows = refl; left = _; met = c.change.ensures; leaves = refl };
      stood = sym (get_or-map view ms a d fresh l);
      stands = map-set view ms a c.change.new.arg2;
    }
