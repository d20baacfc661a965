-- A message whose fields lie in the first 30 bytes of its head.
use Rattle.std.specs.Prelude.{◌+◌, ◌≤◌}
use Rattle.header.specs.declared.Header.{Header}

pub record Short (m : Header) : Type 0 where
  pub path : m.path.at + m.path.len ≤ 30
  pub interface : m.interface.at + m.interface.len ≤ 30
  pub member : m.member.at + m.member.len ≤ 30
