use Rattle.sw_httpwrite.proofs.Writes.{AppendsProperFront-after}
use Rattle.sw_httpwrite.proofs.write.write_both.Goals as goal

pub returns-clause-front : goal.returns-clause-front
returns-clause-front g c =
    AppendsProperFront-after c.write_all-2.result (g.N.Conn.written c.args.conn.now) (g.N.Conn.written c.write_all.new.conn) (g.N.Conn.written c.write_all-2.new.conn)
    c.args.first.now c.args.second.now c.in_ok-write_all.ensures.whole c.write_all-2.ensures.front
