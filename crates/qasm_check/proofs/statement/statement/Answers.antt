use Rattle.qasm_check.proofs.statement.statement.Goals as goal

pub returns-in-Register-clause-err : goal.returns-in-Register-clause-err
returns-in-Register-clause-err c = rw c.in-Register.is c.register.ensures.err

pub returns-in-Measure-clause-err : goal.returns-in-Measure-clause-err
returns-in-Measure-clause-err c = rw c.in-Measure.is c.measured.ensures.err
