use Rattle.std.proofs.Common.{refl}
use Rattle.std.specs.Fmt.{digits}
use Rattle.smc_words.specs.Words.{address}
use Rattle.smc_core.proofs.worked.worked_rows.Goals as goal

pub returns-clause-start_refused : goal.returns-clause-start_refused
unfolding address digits
returns-clause-start_refused c = refl

pub returns-clause-show : goal.returns-clause-show
unfolding address digits
returns-clause-show c = refl

pub returns-clause-show_groups : goal.returns-clause-show_groups
unfolding address digits
returns-clause-show_groups c = refl

pub returns-clause-show_interfaces : goal.returns-clause-show_interfaces
unfolding address digits
returns-clause-show_interfaces c = refl

pub returns-clause-learned_shown : goal.returns-clause-learned_shown
unfolding address digits
returns-clause-learned_shown c = refl

pub returns-clause-session_says : goal.returns-clause-session_says
unfolding address digits
returns-clause-session_says c = refl

pub returns-clause-learned_twice : goal.returns-clause-learned_twice
unfolding address digits
returns-clause-learned_twice c = refl

pub returns-clause-refused_unlearned : goal.returns-clause-refused_unlearned
unfolding address digits
returns-clause-refused_unlearned c = refl

pub returns-clause-add : goal.returns-clause-add
unfolding address digits
returns-clause-add c = refl

pub returns-clause-add_refused : goal.returns-clause-add_refused
unfolding address digits
returns-clause-add_refused c = refl

pub returns-clause-join : goal.returns-clause-join
unfolding address digits
returns-clause-join c = refl

pub returns-clause-leave : goal.returns-clause-leave
unfolding address digits
returns-clause-leave c = refl

pub returns-clause-kill_says : goal.returns-clause-kill_says
unfolding address digits
returns-clause-kill_says c = refl
