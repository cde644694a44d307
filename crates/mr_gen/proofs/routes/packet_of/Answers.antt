use Rattle.std.proofs.Common.{◌≡◌, ℕ, length, ap, sym, ◌∙◌, refl}
use Rattle.mr_ip.specs.MadeHeads.{made_head, unsummed_head}
use Rattle.mr_gen.proofs.routes.packet_of.Goals as goal

made_length : (ident ttl src dst len : ℕ) → length (made_head ident ttl src dst len) ≡ 20
unfolding made_head unsummed_head
made_length ident ttl src dst len = refl

pub copy_from_slice-requires : goal.copy_from_slice-requires
copy_from_slice-requires c = sym (ap length (c.bytes_of.ensures ∙ c.make_head-head.ensures.bytes) ∙ made_length 0 64 _ _ 28)
