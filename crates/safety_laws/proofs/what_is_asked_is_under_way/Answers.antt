use Rattle.safety_laws.proofs.Responsive.{responsive_after}
use Rattle.safety_laws.proofs.what_is_asked_is_under_way.Goals as goal

pub returns-clause-answered : goal.returns-clause-answered
returns-clause-answered c j job es l = (responsive_after j job es l).answered

pub returns-clause-refreshing : goal.returns-clause-refreshing
returns-clause-refreshing c j job es l = (responsive_after j job es l).refreshing

pub returns-clause-named : goal.returns-clause-named
returns-clause-named c j job es l = (responsive_after j job es l).named

pub returns-clause-threads : goal.returns-clause-threads
returns-clause-threads c j job es l = (responsive_after j job es l).threads

pub returns-clause-served : goal.returns-clause-served
returns-clause-served c j job es l = (responsive_after j job es l).served
