use Rattle.std.proofs.Common.{◌≡◌, ◌∙◌, ap, sym, subst, not, filter, map, List, rules}
use Rattle.std.proofs.lemmas.Fn.{filter_same}
use Rattle.mr_plain_lists.specs.declared.known.Group.{Group}
use Rattle.mr_plain_lists.specs.Knowing.{awaiting, AreGroups}
use Rattle.mr_plain.proofs.Groups.{is_of, filter_awaiting, groups_part}
use Rattle.mr_model.specs.WaitingList.{is_awaiting}
use Rattle.mr_plain.proofs.taking.remove_group.Goals as goal

kept : (c : goal.After-retain) → c.retain.new.self.items ≡ filter (λ g. not (is_of c.args.src c.args.dst g)) c.args.waiting.now.items
kept c = filter_same _ _ _ (λ x b f' k. search rules) _ _ c.retain.ensures.filtered

pub returns-clause-left : goal.returns-clause-left
returns-clause-left c = ap (λ (ws : List Group). map awaiting ws) (kept c) ∙ filter_awaiting (λ a. not (is_awaiting c.args.src c.args.dst a)) c.args.waiting.now.items

pub returns-clause-few : goal.returns-clause-few
returns-clause-few c = λ are. subst AreGroups (sym (kept c)) (groups_part (λ g. not (is_of c.args.src c.args.dst g)) c.args.waiting.now.items are)
