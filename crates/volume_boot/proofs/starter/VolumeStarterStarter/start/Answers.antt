use Rattle.std.proofs.Common.{◌≡◌, List, ap, ◌∙◌, sym}
use Rattle.driver_start.specs.Forms.{loadable_of}
use Rattle.driver_start.specs.Starts.{DriverState}
use Rattle.driver_start.proofs.Offered.{loadable_of-is}
use Rattle.volume_boot.specs.Boots.{record_of}
use Rattle.volume_boot.proofs.StarterLemmas.{found_at, sound_at, started_then}
use Rattle.volume_boot.proofs.starter.VolumeStarterStarter.start.Goals as goal

pub start-requires : goal.start-requires
start-requires c =
    let drivers : List DriverState = c.self.inside.drivers.now in
    let driver : DriverState = c.in-Some.driver.now in
    let there = found_at drivers c.args.index driver c.in-Some.ensures.lookup.0 c.in-Some.ensures.lookup.1 in
    sound_at drivers c.args.index driver c.self.invariant there

pub returns : goal.returns
returns c =
    let driver : DriverState = c.in-Some.driver.now in
    let drivers : List DriverState = c.self.inside.drivers.now in
    let there = found_at drivers c.args.index driver c.in-Some.ensures.lookup.0 c.in-Some.ensures.lookup.1 in
    let sound = sound_at drivers c.args.index driver c.self.invariant there in
    started_then c.args.self.now c.self.inside.drivers.now c.self.inside.host c.self.inside.starts c.self.view_is c.in-Some-take.host
    (sym c.take.ensures.value ∙ c.in-Some-take.is) c.args.index c.args.round driver there
    c.in_ok-host.host c.in_ok-host.ended c.in_ok-host.records (c.in_ok-host.ensures (loadable_of driver) (loadable_of-is driver sound))
    c.new.result (c.new.ensures ∙ ap (λ (d : DriverState). record_of d.name c.args.round (c.in_ok-host.ended, c.in_ok-host.records)) c.driver.view_is)
    c.push.result c.push.new.self c.push.ensures.ok
