use Rattle.run_report.proofs.kinds.steal_answer.Goals as goal

pub returns-in-DeliverUp : goal.returns-in-DeliverUp
returns-in-DeliverUp c agreed = rw c.in-DeliverUp.is (c.message_answer.ensures c.in-DeliverUp.worker agreed)
