-- From the two walks to the contract of the build.
use Rattle.places.specs.Left.{lent_of}
use Rattle.plain.proofs.Whole.{deep_in, finishing, plain_builds}
use Rattle.plain.proofs.build_plain.Goals as goal

pub wipe-requires : goal.wipe-requires
wipe-requires c =
    let a = c.args in
    deep_in (lent_of a.parcels.now a.labels.now a.jumps.now a.loops.now) c.of-rooms.ensures c.place_all-placed.ensures

pub finish-requires : goal.finish-requires
finish-requires c =
    let a = c.args in
    finishing (lent_of a.parcels.now a.labels.now a.jumps.now a.loops.now) c.of-rooms.ensures c.place_all-placed.ensures

pub returns : goal.returns
returns c =
    let a = c.args in
    plain_builds (lent_of a.parcels.now a.labels.now a.jumps.now a.loops.now) c.of-rooms.ensures c.place_all-placed.ensures c.finish.ensures c.wipe.ensures
