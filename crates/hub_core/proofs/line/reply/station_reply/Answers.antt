use Rattle.hub_core.proofs.line.reply.station_reply.Goals as goal

pub returns-in-Scan-clause-served : goal.returns-in-Scan-clause-served
returns-in-Scan-clause-served g c = rw c.in-Scan.is c.scan_reply.ensures.served

pub returns-in-Scan-clause-fails : goal.returns-in-Scan-clause-fails
returns-in-Scan-clause-fails g c = rw c.in-Scan.is c.scan_reply.ensures.fails

pub returns-in-Scan-clause-outcomes : goal.returns-in-Scan-clause-outcomes
returns-in-Scan-clause-outcomes g c = rw c.in-Scan.is c.scan_reply.ensures.outcomes
