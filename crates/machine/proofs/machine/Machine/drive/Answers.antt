use Rattle.std.proofs.Common.{◌≡◌, ◌≤◌, [], map, length, arith}
use Rattle.motor.specs.Motors.{view}
use Rattle.machine.proofs.Driving.{driven_all}
use Rattle.machine.proofs.machine.Machine.drive.Goals as goal

pub returns-clause-motors : goal.returns-clause-motors
returns-clause-motors g c =
    let s = g.S.Source.means c.args.self.now.source [] in
    let i = c.loop-axis.axis in
    let at : c.loop-axis.axis ≡ length c.args.out.now = omega (arith, c.loop-axis-test.false, c.loop-axis.auto.axis-end) in
    let end : s.axes ≤ c.loop-axis.axis = omega (arith, c.requires) in
    driven_all s i (map view c.loop-axis.self.inner.records) _ end c.loop-axis.invariant.1
