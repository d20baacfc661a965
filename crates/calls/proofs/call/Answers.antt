use Rattle.std.proofs.Common.{◌≤◌, length, arith}
use Rattle.calls.proofs.Entries.{own_long, release_long, piece_long}
use Rattle.calls.proofs.Called.{calling}
use Rattle.calls.proofs.call.Goals as goal

pub connect-requires : goal.connect-requires
connect-requires c = search calling

pub peer_in-peer-requires : goal.peer_in-peer-requires
peer_in-peer-requires c = search calling

pub slice_bounds-own-count : goal.slice_bounds-own-count
slice_bounds-own-count c = let h : 4 ≤ length c.args.argument.now = own_long _ _ c.requires c.in-Own.is in omega arith

pub slice_bounds-own-start : goal.slice_bounds-own-start
slice_bounds-own-start c = let h : 4 ≤ length c.args.argument.now = own_long _ _ c.requires c.in-Own.is in omega arith

pub peer_in-peer-requires-in-Release : goal.peer_in-peer-requires-in-Release
peer_in-peer-requires-in-Release c = search calling

pub slice_bounds-release-count : goal.slice_bounds-release-count
slice_bounds-release-count c = let h : 4 ≤ length c.args.argument.now = release_long _ _ c.requires c.in-Release.is in omega arith

pub slice_bounds-release-start : goal.slice_bounds-release-start
slice_bounds-release-start c = let h : 4 ≤ length c.args.argument.now = release_long _ _ c.requires c.in-Release.is in omega arith

pub peer_in-peer-requires-in-Piece : goal.peer_in-peer-requires-in-Piece
peer_in-peer-requires-in-Piece c = search calling

pub slice_bounds-piece-count : goal.slice_bounds-piece-count
slice_bounds-piece-count c = let h : 4 ≤ length c.args.argument.now = piece_long _ _ c.requires c.in-Piece.is in omega arith

pub slice_bounds-piece-start : goal.slice_bounds-piece-start
slice_bounds-piece-start c = let h : 4 ≤ length c.args.argument.now = piece_long _ _ c.requires c.in-Piece.is in omega arith

pub peer_in-requires : goal.peer_in-requires
peer_in-requires c = search calling

pub tick-requires : goal.tick-requires
tick-requires c = search calling

pub returns-in-Start : goal.returns-in-Start
returns-in-Start c = search calling

pub returns-in-Connect : goal.returns-in-Connect
returns-in-Connect c = search calling

pub returns-in-Own : goal.returns-in-Own
returns-in-Own c = search calling

pub returns-in-Release : goal.returns-in-Release
returns-in-Release c = search calling

pub returns-in-Piece : goal.returns-in-Piece
returns-in-Piece c = search calling

pub returns-in-Disconnect : goal.returns-in-Disconnect
returns-in-Disconnect c = search calling

pub returns-in-Tick : goal.returns-in-Tick
returns-in-Tick c = search calling
