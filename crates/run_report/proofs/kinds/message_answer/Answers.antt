use Rattle.run_report.proofs.kinds.message_answer.Goals as goal

pub returns-in-Some : goal.returns-in-Some
returns-in-Some c i agreed = rw c.in-Some.is (c.told_answer.ensures i agreed)
