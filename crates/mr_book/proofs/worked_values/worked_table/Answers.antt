use Rattle.mr_book.proofs.WorkedTables as tables
use Rattle.mr_book.proofs.worked_values.worked_table.Goals as goal

pub returns-clause-holds : goal.returns-clause-holds
returns-clause-holds c = tables.rule_holds

pub returns-clause-miscounted : goal.returns-clause-miscounted
returns-clause-miscounted c = tables.miscounted

pub returns-clause-no_beginning : goal.returns-clause-no_beginning
returns-clause-no_beginning c = tables.no_beginning

pub returns-clause-not_known : goal.returns-clause-not_known
returns-clause-not_known c = tables.not_known

pub returns-clause-held_twice : goal.returns-clause-held_twice
returns-clause-held_twice c = tables.held_twice

pub returns-clause-two_may_count : goal.returns-clause-two_may_count
returns-clause-two_may_count c = tables.two_may_count
