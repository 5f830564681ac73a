-- The three bytes of each string are those that were compared.
use Rattle.std.proofs.Common.{sym, subst, true, false}
use Rattle.npy_codec.specs.Files.{IsDescr, little_eight, big_eight, little_four, big_four, little_two, big_two, one}
use Rattle.npy_codec.proofs.Types.{three}
use Rattle.npy_codec.proofs.read.type_of.Goals as goal

pub returns-in-60-eq56 : goal.returns-in-60-eq56
returns-in-60-eq56 c = subst (λ d. IsDescr d (record { width = 8; big = false })) (sym (three c.args.descr.now 60 105 56 c.if-descr-ne3.false c.in-60-eq56.is-0 c.if-descr-ne105.false c.in-60-eq56.is-1)) little_eight

pub returns-in-60-eq52 : goal.returns-in-60-eq52
returns-in-60-eq52 c = subst (λ d. IsDescr d (record { width = 4; big = false })) (sym (three c.args.descr.now 60 105 52 c.if-descr-ne3.false c.in-60-eq52.is-0 c.if-descr-ne105.false c.in-60-eq52.is-1)) little_four

pub returns-in-60-eq50 : goal.returns-in-60-eq50
returns-in-60-eq50 c = subst (λ d. IsDescr d (record { width = 2; big = false })) (sym (three c.args.descr.now 60 105 50 c.if-descr-ne3.false c.in-60-eq50.is-0 c.if-descr-ne105.false c.in-60-eq50.is-1)) little_two

pub returns-in-62-eq56 : goal.returns-in-62-eq56
returns-in-62-eq56 c = subst (λ d. IsDescr d (record { width = 8; big = true })) (sym (three c.args.descr.now 62 105 56 c.if-descr-ne3.false c.in-62-eq56.is-0 c.if-descr-ne105.false c.in-62-eq56.is-1)) big_eight

pub returns-in-62-eq52 : goal.returns-in-62-eq52
returns-in-62-eq52 c = subst (λ d. IsDescr d (record { width = 4; big = true })) (sym (three c.args.descr.now 62 105 52 c.if-descr-ne3.false c.in-62-eq52.is-0 c.if-descr-ne105.false c.in-62-eq52.is-1)) big_four

pub returns-in-62-eq50 : goal.returns-in-62-eq50
returns-in-62-eq50 c = subst (λ d. IsDescr d (record { width = 2; big = true })) (sym (three c.args.descr.now 62 105 50 c.if-descr-ne3.false c.in-62-eq50.is-0 c.if-descr-ne105.false c.in-62-eq50.is-1)) big_two

pub returns-in-124-eq49 : goal.returns-in-124-eq49
returns-in-124-eq49 c = subst (λ d. IsDescr d (record { width = 1; big = false })) (sym (three c.args.descr.now 124 105 49 c.if-descr-ne3.false c.in-124-eq49.is-0 c.if-descr-ne105.false c.in-124-eq49.is-1)) one
