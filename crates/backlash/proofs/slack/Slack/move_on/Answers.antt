use Rattle.backlash.specs.BacklashLaws.{standing_follows}
use Rattle.backlash.proofs.slack.Slack.move_on.Goals as goal

pub returns : goal.returns
returns g c =
    let self = c.args.self.now in
    standing_follows self.backlash self.stand c.moved-self.result (g.S.Source.means c.args.below.now) c.moved-self.ensures.value
