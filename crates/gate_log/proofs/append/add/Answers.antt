use Rattle.gate_log.proofs.Exits.{at_frame, at_gate, appended, has_record, open_again}
use Rattle.gate_log.proofs.append.add.Goals as goal

pub returns-in_err-write_safely-clause-stops : goal.returns-in_err-write_safely-clause-stops
returns-in_err-write_safely-clause-stops g c =
    at_frame (g.D.Disk.told c.args.disk.now) (g.D.Disk.images c.args.disk.now) c.args.gate c.args.frame.now c.requires.ready c.requires.form c.requires.fits (g.D.Disk.images c.write_safely.new.disk) c.write_safely.ensures.stops

pub returns-in_err-write_safely-2-clause-stops : goal.returns-in_err-write_safely-2-clause-stops
returns-in_err-write_safely-2-clause-stops g c =
    at_gate (g.D.Disk.told c.args.disk.now) (g.D.Disk.images c.args.disk.now) c.args.gate c.args.frame.now c.requires.ready c.requires.form c.requires.fits
    (g.D.Disk.told c.write_safely.new.disk) (g.D.Disk.images c.write_safely.new.disk) c.in_ok-write_safely.ensures.leaves
    (g.D.Disk.images c.write_safely-2.new.disk) c.in_ok-write_safely.ensures.safe c.write_safely-2.ensures.stops

pub returns-clause-leaves : goal.returns-clause-leaves
returns-clause-leaves g c =
    appended (g.D.Disk.told c.args.disk.now) (g.D.Disk.images c.args.disk.now) c.args.gate c.args.frame.now c.requires.ready c.requires.form c.requires.fits
    (g.D.Disk.told c.write_safely.new.disk) (g.D.Disk.images c.write_safely.new.disk) c.in_ok-write_safely.ensures.leaves
    (g.D.Disk.told c.write_safely-2.new.disk) (g.D.Disk.images c.write_safely-2.new.disk) c.in_ok-write_safely-2.ensures.leaves c.in_ok-write_safely-2.ensures.safe

pub returns-clause-stops : goal.returns-clause-stops
returns-clause-stops g c =
    at_gate (g.D.Disk.told c.args.disk.now) (g.D.Disk.images c.args.disk.now) c.args.gate c.args.frame.now c.requires.ready c.requires.form c.requires.fits
    (g.D.Disk.told c.write_safely.new.disk) (g.D.Disk.images c.write_safely.new.disk) c.in_ok-write_safely.ensures.leaves
    (g.D.Disk.images c.write_safely-2.new.disk) c.in_ok-write_safely.ensures.safe c.write_safely-2.ensures.stops

pub returns-clause-kept : goal.returns-clause-kept
returns-clause-kept g c =
    has_record (g.D.Disk.told c.args.disk.now) (g.D.Disk.images c.args.disk.now) c.args.gate c.args.frame.now c.requires.ready c.requires.form c.requires.fits
    (g.D.Disk.told c.write_safely.new.disk) (g.D.Disk.images c.write_safely.new.disk) c.in_ok-write_safely.ensures.leaves
    (g.D.Disk.told c.write_safely-2.new.disk) (g.D.Disk.images c.write_safely-2.new.disk) c.in_ok-write_safely-2.ensures.leaves c.in_ok-write_safely-2.ensures.safe

pub returns-clause-ready : goal.returns-clause-ready
returns-clause-ready g c =
    open_again (g.D.Disk.told c.args.disk.now) (g.D.Disk.images c.args.disk.now) c.args.gate c.args.frame.now c.requires.ready c.requires.form c.requires.fits
    (g.D.Disk.told c.write_safely.new.disk) (g.D.Disk.images c.write_safely.new.disk) c.in_ok-write_safely.ensures.leaves
    (g.D.Disk.told c.write_safely-2.new.disk) (g.D.Disk.images c.write_safely-2.new.disk) c.in_ok-write_safely-2.ensures.leaves c.in_ok-write_safely-2.ensures.safe
