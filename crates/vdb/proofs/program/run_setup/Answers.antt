use Rattle.vdb.proofs.ApartLanes.{lanes_apart}
use Rattle.vdb.proofs.program.run_setup.Goals as goal

pub run_parts-ran-requires-clause-apart : goal.run_parts-ran-requires-clause-apart
run_parts-ran-requires-clause-apart g c κs within = lanes_apart g.M.S.Resource.told c.args.setup.now _ _ c.in-Ok.parts c.requires.apart c.in-Ok.ensures

pub run_parts-ran-requires-clause-here : goal.run_parts-ran-requires-clause-here
run_parts-ran-requires-clause-here g c κs within = c.in-Ok.ensures.here
